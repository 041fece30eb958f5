-- All definitions of the print at once, for a proof that computes: `unfolding opened`.
use Rattle.words.specs.Word.{when◌then◌else◌}
use Rattle.report.specs.Print.{digits_of, decimal, after_comma, after_commas, line_of, row_of, totals_row_of, refusal_of}

unfoldable pub opened : Type 0
unfolding when◌then◌else◌ digits_of decimal after_comma after_commas line_of row_of totals_row_of refusal_of
opened = Unit {0}
