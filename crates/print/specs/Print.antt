-- The print of a whole file, which is the meaning of the bench program: rule 8.
use Rattle.std.specs.Prelude.{ℕ, ◌+◌, List, [], ◌∷◌, ◌++◌, eqb, length}
use Rattle.words.specs.Word.{when◌then◌else◌}
use Rattle.rules.specs.declared.Motor.{Motor}
use Rattle.sheet.specs.declared.Request.{Request}
use Rattle.sheet.specs.declared.Request.TheVariants.{Motor as M, Input as I, Scan as S, Refused}
use Rattle.sheet.specs.Grammar.{requests_of}
use Rattle.report.specs.declared.Row.{Row}
use Rattle.report.specs.declared.TotalsRow.{TotalsRow}
use Rattle.report.specs.Print.{row_of, totals_row_of, refusal_of}
use Rattle.totals.specs.declared.Totals.{Totals}
use Rattle.totals.specs.Totals.{under_way_of, totals_of}
use Rattle.interpreter.specs.State.{State, empty_state, next_number, refusal_for, changed, too_long}
use Rattle.interpreter.specs.Histories.{History, histories_of}

-- `R,scan,number,mode,position,command,end,output,flags`
unfoldable pub motor_row : ℕ → ℕ → Motor → Row
motor_row scan number m =
    record {
      scan = scan;
      number = number;
      mode = m.status.mode;
      position = m.status.position;
      command = m.status.command;
      end = m.status.end;
      output = m.output.state;
      flags = m.status.flags;
    }

-- A row for each motor, from a number on
unfoldable pub rows_of : ℕ → ℕ → List Motor → List ℕ
rows_of scan number [] = []
rows_of scan number (m ∷ ms) = row_of (motor_row scan number m) ++ rows_of scan (number + 1) ms

-- What an accepted line prints: a scan its rows, another line nothing. `t` is the state after it.
unfoldable pub answer_of : State → Request → List ℕ
answer_of t (M number ops1 ops2 w u) = []
answer_of t (I number word) = []
answer_of t (S period) = rows_of t.scans 1 t.motors
answer_of t Refused = []

-- The totals, rule 8.3: a T line for each motor, from a number on, with what its history comes to
-- `T,number,issued,confirmed,displaced,overdue,under way,on,best,worst`
unfoldable pub totals_row : ℕ → ℕ → Totals → TotalsRow
totals_row number underway t =
    record {
      number = number;
      issued = t.issued;
      confirmed = t.confirmed;
      displaced = t.displaced;
      overdue = t.overdue;
      underway = underway;
      on = t.on;
      best = t.best;
      worst = t.worst;
    }

unfoldable pub history_row : ℕ → History → TotalsRow
history_row number h = totals_row number (under_way_of h.settings h.scans) (totals_of h.settings h.scans)

unfoldable pub totals_print : ℕ → List History → List ℕ
totals_print number [] = []
totals_print number (h ∷ hs) = totals_row_of (history_row number h) ++ totals_print (number + 1) hs

-- The prints of the lines that make these requests, the first of them line number k, and then the end; or up to the first that is refused
unfoldable pub print_from : List ℕ → List Request → State → ℕ → List ℕ
print_from end [] t k = end
print_from end (r ∷ rs) t k =
    when eqb (refusal_for t r) 0 then answer_of (changed t r) r ++ print_from end rs (changed t r) (next_number k)
    else refusal_of k (refusal_for t r)

-- The prints of a file's lines alone
unfoldable pub lines_print : List ℕ → List ℕ
lines_print file = print_from [] (requests_of file) empty_state 1

-- The print of a file whose lines make these requests, line 1 the first. The totals are printed only if no line is refused, so they are those of
-- the histories that all lines make.
unfoldable pub requests_print : List Request → List ℕ
requests_print rs = print_from (totals_print 1 (histories_of rs)) rs empty_state 1

-- The whole print. A file that is too long prints `E,0,1` and nothing else.
unfoldable pub print_of : List ℕ → List ℕ
print_of file = when too_long (length file) then refusal_of 0 1 else requests_print (requests_of file)
