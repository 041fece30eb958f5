-- All definitions of the interpreter at once, for a proof that computes: `unfolding opened`, with those of rules, totals and sheet.
use Rattle.words.specs.Word.{when◌then◌else◌}
use Rattle.interpreter.specs.State.{empty_state, next_number, motor_refusal, with_motor, is_there, input_refusal, with_words, with_word, scan_refusal, with_scan, refusal_for, changed, state_after, states_after, accepted_from, all_accepted, too_long}
use Rattle.interpreter.specs.Histories.{entered, histories_after, histories_from, histories_of}

unfoldable pub opened : Type 0
unfolding when◌then◌else◌ empty_state next_number motor_refusal with_motor is_there input_refusal with_words with_word scan_refusal with_scan refusal_for changed state_after states_after accepted_from all_accepted too_long entered histories_after histories_from histories_of
opened = Unit {0}
