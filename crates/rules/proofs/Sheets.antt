-- The sheets and the cases are right, by computing.
use Rattle.std.specs.Prelude.{refl}
use Rattle.rules.specs.Opened.{opened}
use Rattle.rules.specs.Sheets.{value_of, inputs_of, sheet, wiring, wired, line, lent, all_accepted, read, found, AreRight, given_sheets}
use Rattle.rules.specs.OwnSheets.{◌for◌, timed, flagged, from, start_sheets, reset_sheets, switch_sheets, sum_sheets, end_sheets, fault_sheets, mode_sheets, acknowledging_sheets, choice_sheets, issue_sheets, lent_sheets, own_sheets}
use Rattle.rules.specs.Cases.{one, table, part, found as found_case, stated, AreRight as AreRightCases, most_status, most, with_output, cases}

-- what a sheet is made of and read by
unfoldable opened_sheets : Type 0
unfolding opened value_of inputs_of sheet wiring wired line lent all_accepted read found
opened_sheets = Unit {0}

pub given_right : AreRight given_sheets
unfolding opened_sheets given_sheets
given_right = refl

pub own_right : AreRight own_sheets
unfolding opened_sheets ◌for◌ timed flagged from start_sheets reset_sheets switch_sheets sum_sheets end_sheets fault_sheets mode_sheets acknowledging_sheets choice_sheets issue_sheets lent_sheets own_sheets
own_right = refl

pub cases_right : AreRightCases cases
unfolding opened_sheets one table part found_case stated most_status most with_output cases
cases_right = refl
