-- All definitions of rule 11 at once, for a proof that computes: `unfolding opened`.
use Rattle.std.specs.Float.{float_is_finite, float_with_sign}
use Rattle.std.specs.Float.Ieee.{add, sub, div, neg, sum, lt, le, eq, round, size, span, climb, units, odd, of_int, of_bits, of_fields}
use Rattle.words.specs.Word.{when◌then◌else◌, bit_of, is_set}
use Rattle.sensors.specs.Sensors.{reading, is_marked, number, comes_before, float_of, no_flags, own_flag, other_flags, limit_allowed, refusal_of, is_trusted, mean_of_two, mean_of_three, mean_without, is_smaller, counted, rank, of_rank, least, middle, greatest, fails, are_apart, unless_withheld, both_pass, one_fails, both_fail, by_differences, of_three, of_two, of_one, of_none, by_trust, trusted_answer, answer_of}

unfoldable pub opened : Type 0
unfolding when◌then◌else◌ bit_of is_set float_is_finite float_with_sign add sub div neg sum lt le eq round size span climb units odd of_int of_bits of_fields reading is_marked number comes_before float_of no_flags own_flag other_flags limit_allowed refusal_of is_trusted mean_of_two mean_of_three mean_without is_smaller counted rank of_rank least middle greatest fails are_apart unless_withheld both_pass one_fails both_fail by_differences of_three of_two of_one of_none by_trust trusted_answer answer_of
opened = Unit {0}
