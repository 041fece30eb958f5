-- What a line of a file does to a bench at its place, and what it prints.
use Rattle.std.specs.Prelude.{ℕ, ◌+◌, ◌≡◌, List, [], ◌∷◌, ◌++◌, length}
use Rattle.words.specs.Word.{when◌then◌else◌}
use Rattle.rules.specs.declared.Motor.{Motor}
use Rattle.totals.specs.declared.Totals.{Totals}
use Rattle.totals.specs.Totals.{under_way_in}
use Rattle.report.specs.Print.{totals_row_of, refusal_of}
use Rattle.interpreter.specs.State.{State, empty_state, next_number, refusal_for, changed, view_of, too_long}
use Rattle.print.specs.Print.{answer_of, totals_row}
use Rattle.print.specs.declared.Sitting.{Sitting}
use Rattle.course.specs.Through.{Lines}

-- A state at a place of a file, where the line of this number begins. A place past the file's end says that all is printed.
pub record Place : Type 0 where
  pub at : ℕ
  pub state : State
  pub line : ℕ

abbrev pub place_of : Sitting → Place
place_of s = record { at = s.at; state = view_of s.bench; line = s.line }

abbrev pub over : List ℕ → Place → Place
over file p = record { at = length file + 1; state = p.state; line = p.line }

-- What is printed where a bench comes to the end of a file without a refusal: its running totals, which are those of the histories if it began
-- empty (proofs/Histories.antt)
unfoldable pub running_print : ℕ → List Motor → List Totals → List ℕ
running_print number [] ts = []
running_print number (m ∷ ms) [] = []
running_print number (m ∷ ms) (t ∷ ts) = totals_row_of (totals_row number (under_way_in m.status) t) ++ running_print (number + 1) ms ts

unfoldable pub at_end : State → List ℕ
at_end t = running_print 1 t.motors t.totals

-- What the program makes of a line
abbrev pub print_lines : Lines Place
print_lines =
    record {
      at = λ p. p.at;
      refusal = λ p r. refusal_for p.state r;
      after = λ next p r. record { at = next; state = changed p.state r; line = next_number p.line };
      answer = λ p r. answer_of (changed p.state r) r;
      stop = λ p r. refusal_of p.line (refusal_for p.state r);
      end = λ p. at_end p.state;
      past = over;
    }

-- Most that one line prints, or the end: for each of 32 motors a row of 90 bytes, or of 101
abbrev pub most_put : ℕ
most_put = 3232

-- What stands before the prints of the lines: the refusal of a file that is too long
unfoldable pub opening : List ℕ → List ℕ
opening file = when too_long (length file) then refusal_of 0 1 else []

-- The beginning: an empty bench stands before the first line, or past the end of a file that is too long.
pub record Beginning (file : List ℕ) (s : Sitting) : Type 0 where
  pub at : s.at ≡ (when too_long (length file) then length file + 1 else 0)
  pub state : view_of s.bench ≡ empty_state
  pub line : s.line ≡ 1
