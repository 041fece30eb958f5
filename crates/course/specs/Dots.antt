-- An example of a walk, for the tests: a dot for each M and I line, up to the first line of another kind, for which ! is printed.
use Rattle.std.specs.Prelude.{ℕ, ◌+◌, ◌<◌, ◌≤◌, ◌≡◌, List, [], ◌∷◌, ltb, eqb, length}
use Rattle.std.proofs.Common.{arith, lt-ltb}
use Rattle.words.specs.Word.{when◌then◌else◌}
use Rattle.words.proofs.Laws.{either}
use Rattle.sheet.specs.Grammar.{requests_of}
use Rattle.sheet.specs.declared.Request.{Request}
use Rattle.sheet.specs.declared.Request.TheVariants.{Motor, Input, Scan, Refused}
use Rattle.course.specs.Through.{Lines}
use Rattle.course.specs.Walk.{Walk, Laws}

unfoldable pub other : Request → ℕ
other (Motor number ops1 ops2 w u) = 0
other (Input number word) = 0
other (Scan period) = 1
other Refused = 1

unfoldable pub dots_of : List Request → List ℕ
dots_of [] = []
dots_of (r ∷ rs) = when eqb (other r) 0 then 46 ∷ dots_of rs else 33 ∷ []

unfoldable pub dots_opening : List ℕ → List ℕ
dots_opening file = when ltb 65536 (length file) then 33 ∷ [] else []

unfoldable pub dots_text : List ℕ → List ℕ
dots_text file = when ltb 65536 (length file) then 33 ∷ [] else dots_of (requests_of file)

abbrev pub dots_lines : Lines ℕ
dots_lines =
    record {
      at = λ p. p;
      refusal = λ p r. other r;
      after = λ next p r. next;
      answer = λ p r. 46 ∷ [];
      stop = λ p r. 33 ∷ [];
      end = λ p. [];
      past = λ file p. length file + 1;
    }

-- A place is a number, at any type that holds one.
abbrev pub dots : {C : Type 0} → (C → ℕ) → Walk C
dots at =
    record {
      Place = ℕ;
      lines = dots_lines;
      place_of = at;
      begins = λ file d. at d ≡ (when ltb 65536 (length file) then length file + 1 else 0);
      text = dots_text;
      opening = dots_opening;
      refused = 33 ∷ [];
      most_put = 1;
    }

dots_long : (file : List ℕ) → 65536 < length file → dots_text file ≡ 33 ∷ []
unfolding dots_text when◌then◌else◌
dots_long file h = rw (lt-ltb 65536 (length file) h)

dots_short : (file : List ℕ) → length (dots_opening file) ≤ 1
unfolding dots_opening
dots_short file = either (λ (l : List ℕ). length l ≤ 1) _ (omega arith) (omega arith)

pub dots_laws : {C : Type 0} (at : C → ℕ) → Laws (dots at)
dots_laws at = record { long = dots_long; short = dots_short; room = omega arith }
