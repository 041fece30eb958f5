-- Runs of I lines, and which line stands at a place. Assumes nothing.
use Rattle.std.specs.List.{list_all}
use Rattle.std.proofs.Common.{ℕ, ◌-◌, ◌<◌, ◌≤◌, ◌≡◌, refl, ◌∙◌, true, List, arith, length, take, set, length-set, Option, Some}
use lib.Seq.{take-set-lt}
use Rattle.rules.specs.Refusals.{word_ok}
use Rattle.sheet.specs.declared.Request.{Request}
use Rattle.std.proofs.lemmas.Option.{some_pair_parts}
use Rattle.sheet.specs.declared.Request.TheVariants.{Input as I}
use Rattle.sheet.specs.Grammar.{next_at}
use Rattle.sheet.proofs.RequestLaws.{taken}
use Rattle.interpreter.specs.State.{input_refusal}
use Rattle.interpreter.specs.Lines.{InputLines}
use Rattle.interpreter.specs.Lines.InputLines.{none, one_more}
use Rattle.interpreter.proofs.ActLaws.{input_there}
use Rattle.interpreter.proofs.Kept.{all_set, word_right}

-- the word of an accepted I line is in its range
word_kept : (words : List ℕ) (number word held : ℕ) → input_refusal held number word ≡ 0 → list_all word_ok (take held words) ≡ true
    → list_all word_ok (take held (set words (number - 1) word)) ≡ true
word_kept words number word held h e = grind (arith, take-set-lt, all_set, input_there, word_right)

-- a line from here on leads nearer to the end
pub closer : (file : List ℕ) (at here next : ℕ) (r : Request) → at ≤ here → next_at file here ≡ Some (r, next) → length file - next < length file - at
closer file at here next r l found = let line = taken file here r next found in omega (arith, line.further, line.within)

module _ {file words : List ℕ} {held at line : ℕ} where
  -- as many words as before, in their range if they were
  pub same_size : {later : List ℕ} {here k : ℕ} → InputLines file held words at line later here k → length later ≡ length words
  same_size none = refl
  same_size (one_more {later} {number = number} {word} s found h) = length-set later (number - 1) word ∙ same_size s

  pub words_right : {later : List ℕ} {here k : ℕ} → InputLines file held words at line later here k → list_all word_ok (take held words) ≡ true
      → list_all word_ok (take held later) ≡ true
  words_right none e = e
  words_right (one_more {later} {number = number} {word} s found h) e = word_kept later number word held h (words_right s e)

  -- onward in the file, and not past its end
  pub onward : {later : List ℕ} {here k : ℕ} → InputLines file held words at line later here k → at ≤ here
  onward none = omega arith
  onward (one_more {here = here} {number} {word} {next} s found h) = omega (arith, onward s, (taken file here (I number word) next found).further)

  pub inside : {later : List ℕ} {here k : ℕ} → InputLines file held words at line later here k → at ≤ length file → here ≤ length file
  inside none l = l
  inside (one_more {here = here} {number} {word} {next} s found h) l = (taken file here (I number word) next found).within

-- ---- which request stands at a place

pub same_request : {r r' : Request} {next next' : ℕ} → ◌≡◌ {A = Option (Request × ℕ)} (Some (r, next)) (Some (r', next')) → r ≡ r'
same_request e = (some_pair_parts _ _ _ _ e).0
