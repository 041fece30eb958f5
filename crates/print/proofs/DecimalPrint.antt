-- Words in hexadecimal leave the prints of other files as they are: those of which no line that is read has a word field that begins with 0x, and all
-- that were accepted. Assumes nothing.
use Prim.Native.Nat.{ℕ}
use mathlib.Core.Path.{◌≡◌, refl, sym, ap, ◌∙◌}
use mathlib.Core.Bool.{Bool, true, false, false≢true}
use mathlib.Core.List.{List, [], ◌∷◌, ◌++◌, map}
use lib.Dec.{eqb}
use lib.ListN.{length}
use borrow.Author.Tests.{eqb-true, eqb-false}
use Rattle.words.specs.Word.{when◌then◌else◌}
use Rattle.words.proofs.Laws.{and_true, either}
use Rattle.sheet.specs.Lines.{Text, lines_of}
use Rattle.sheet.specs.Grammar.{text_request, requests_of}
use Rattle.sheet.specs.DecimalWords.{decimal_text, decimal_requests, text_has0x}
use Rattle.sheet.specs.declared.Request.{Request}
use Rattle.sheet.proofs.DecimalLaws.{same_text, made_text}
use Rattle.report.specs.Print.{refusal_of}
use Rattle.interpreter.specs.State.{State, empty_state, next_number, refusal_for, changed, all_accepted, too_long}
use Rattle.interpreter.specs.Histories.{histories_of}
use Rattle.print.specs.Print.{answer_of, totals_print, print_from, requests_print, print_of}
use Rattle.print.specs.DecimalWords.{decimal_print, no0x_from, no0x_read, decimal_accepted}
use Rattle.interpreter.proofs.ActLaws.{not_accepted}
use Rattle.print.proofs.PrintLaws.{from_accepted, from_refused}

-- ---- the prints agree line by line; what is printed at the end counts only if all requests agree

module _ (end before : List ℕ) where
  print_same : (ls : List Text) (t : State) (k : ℕ) → no0x_from t ls ≡ true → (map text_request ls ≡ map decimal_text ls → end ≡ before)
      → print_from end (map text_request ls) t k ≡ print_from before (map decimal_text ls) t k
  unfolding no0x_from print_from when◌then◌else◌
  print_same [] t k h f = f refl
  print_same (l ∷ ls) t k h f =
      go (text_has0x l) refl (eqb (refusal_for t (decimal_text l)) 0) refl h (print_same ls (changed t (decimal_text l)) (next_number k))
    where
      r : Request
      r = decimal_text l

      -- the line makes the same request
      same : text_has0x l ≡ false → (rs : List Request) → print_from end (text_request l ∷ rs) t k ≡ print_from end (r ∷ rs) t k
      same e rs = ap (λ (q : Request). print_from end (q ∷ rs) t k) (same_text l e)

      go : (x : Bool) → text_has0x l ≡ x → (y : Bool) → eqb (refusal_for t r) 0 ≡ y → (when x then false else when y then no0x_from (changed t r) ls else true) ≡ true
          → (no0x_from (changed t r) ls ≡ true → (map text_request ls ≡ map decimal_text ls → end ≡ before)
          → print_from end (map text_request ls) (changed t r) (next_number k) ≡ print_from before (map decimal_text ls) (changed t r) (next_number k))
          → print_from end (text_request l ∷ map text_request ls) t k ≡ print_from before (r ∷ map decimal_text ls) t k
      go true e y g h ih = absurd (false≢true h)
      go false e true g h ih =
          same e (map text_request ls)
          ∙ from_accepted end r (map text_request ls) t k (eqb-true (refusal_for t r) 0 g)
          ∙ ap (λ (p : List ℕ). answer_of (changed t r) r ++ p) (ih h (λ q. f (rw (same_text l e, q))))
          ∙ sym (from_accepted before r (map decimal_text ls) t k (eqb-true (refusal_for t r) 0 g))
      go false e false g h ih =
          same e (map text_request ls)
          ∙ from_refused end r (map text_request ls) t k (eqb-false (refusal_for t r) 0 g)
          ∙ sym (from_refused before r (map decimal_text ls) t k (eqb-false (refusal_for t r) 0 g))

-- A file prints what it prints if words are decimal alone, unless a line that is read then has a word field that begins with 0x.
pub prints_as_before : (file : List ℕ) → no0x_read file ≡ true → print_of file ≡ decimal_print file
unfolding print_of decimal_print requests_print requests_of decimal_requests no0x_read when◌then◌else◌
prints_as_before file h = go (too_long (length file)) h
  where
    go : (t : Bool) → (when t then true else no0x_from empty_state (lines_of file)) ≡ true
        → (when t then refusal_of 0 1 else requests_print (requests_of file)) ≡ (when t then refusal_of 0 1 else requests_print (decimal_requests file))
    go true h = refl
    go false h = print_same _ _ (lines_of file) empty_state 1 h (ap (λ (rs : List Request). totals_print 1 (histories_of rs)))

-- ---- a line that is accepted then has no such field

accepted_no_0x : (ls : List Text) (t : State) → all_accepted t (map decimal_text ls) ≡ true → no0x_from t ls ≡ true
unfolding no0x_from all_accepted when◌then◌else◌
accepted_no_0x [] t a = refl
accepted_no_0x (l ∷ ls) t a =
    let r = decimal_text l in
    let w = and_true (eqb (refusal_for t r) 0) (all_accepted (changed t r) (map decimal_text ls)) a in
    rw (made_text l (not_accepted t r (eqb-true (refusal_for t r) 0 w.0)), w.0) (accepted_no_0x ls (changed t r) w.1)

-- A file of which every line is accepted if words are decimal alone prints what it prints then.
pub accepted_prints_as_before : (file : List ℕ) → decimal_accepted file ≡ true → print_of file ≡ decimal_print file
unfolding decimal_accepted decimal_requests no0x_read
accepted_prints_as_before file a =
    prints_as_before file (either (λ (b : Bool). b ≡ true) (too_long (length file)) refl (accepted_no_0x (lines_of file) empty_state a))
