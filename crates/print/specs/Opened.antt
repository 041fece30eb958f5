-- All definitions of the print of a file at once, for a proof that computes: `unfolding opened`, with those of the crates below.
use Rattle.words.specs.Word.{when◌then◌else◌}
use Rattle.print.specs.Print.{motor_row, rows_of, answer_of, totals_row, history_row, totals_print, print_from, lines_print, requests_print, print_of}
use Rattle.print.specs.DecimalWords.{decimal_print, no0x_from, no0x_read, decimal_accepted}
use Rattle.print.specs.Advance.{opening}

unfoldable pub opened : Type 0
unfolding when◌then◌else◌ motor_row rows_of answer_of totals_row history_row totals_print print_from lines_print requests_print print_of decimal_print no0x_from no0x_read decimal_accepted opening
opened = Unit {0}
