-- Runs of accepted I lines, which change nothing but the words.
use Rattle.std.specs.List.{list_all}
use Rattle.std.specs.Prelude.{ℕ, ◌≤◌, min, ◌≡◌, true, List, [], length, take}
use Rattle.rules.specs.Refusals.{most_motors, word_ok}
use Rattle.interpreter.specs.State.{State, with_words}
use Rattle.interpreter.specs.declared.lines.Inputs.{Inputs}
use Rattle.course.specs.Through.{Through}
use Rattle.print.specs.Advance.{print_lines}

-- Whatever the bench holds besides, the lines lead to the words, the place and the line's number after the run, and print nothing.
pub record Run (file : List ℕ) (held : ℕ) (words : List ℕ) (at line : ℕ) (r : Inputs) : Type 0 where
  pub through : (t : State) (count : ℕ) → length t.motors ≡ held → min count most_motors ≡ held
      → Through print_lines file (record { at = at; state = with_words t (take count words); line = line }) []
      (record { at = r.at; state = with_words t (take count r.words); line = r.line })
  pub size : length r.words ≡ length words
  pub right : list_all word_ok (take held words) ≡ true → list_all word_ok (take held r.words) ≡ true
  pub onward : at ≤ r.at
  pub within : at ≤ length file → r.at ≤ length file
