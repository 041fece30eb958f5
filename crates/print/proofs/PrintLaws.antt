-- Laws of the print: its rows one after another, how long they are, and what is left to print from a place on. Assumes nothing.
use Prim.Native.Nat.{ℕ, suc, ◌+◌, ◌*◌, ◌<◌, ◌≤◌}
use mathlib.Core.Path.{◌≡◌, refl, sym, ap, ◌∙◌}
use mathlib.Core.Logic.{◌⊎◌, inl, inr}
use mathlib.Core.List.{List, [], ◌∷◌, ◌++◌, append_assoc, append-nil}
use native.Mathlib.Omega.{arith}
use native.Mathlib.Numerals.{add-one}
use native.Mathlib.Nat.{add-zero}
use lib.ListN.{length, take, drop, get_or, length-append}
use lib.Seq.{take-suc, length-take-le}
use lib.Dec.{ltb}
use borrow.Author.Tests.{eq-eqb, ne_eqb, lt-ltb, le-ltb}
use Rattle.words.specs.Word.{when◌then◌else◌}
use Rattle.rules.specs.declared.Motor.{Motor}
use Rattle.sheet.specs.declared.Request.{Request}
use Rattle.sheet.specs.declared.Request.TheVariants.{Motor as M, Input as I, Scan as S, Refused}
use Rattle.sheet.specs.Grammar.{requests_of}
use Rattle.sheet.proofs.RequestLaws.{Step, requests_end, taken, done}
use Rattle.report.specs.Print.{row_of, totals_row_of, refusal_of}
use Rattle.report.specs.Puts.{Puts}
use Rattle.report.specs.declared.page.Page.{Page}
use Rattle.report.proofs.PutLaws.{Completes, one_more, none_left}
use Rattle.report.proofs.PrintLaws.{row_length, totals_length}
use Rattle.totals.specs.declared.Totals.{Totals}
use Rattle.totals.specs.Totals.{under_way_in}
use Rattle.interpreter.specs.State.{State, next_number, refusal_for, changed, states_after}
use Rattle.print.specs.Print.{motor_row, rows_of, answer_of, totals_row, print_from}
use Rattle.course.specs.Through.{Through}
use Rattle.course.specs.Through.Through.{none, accepted as one_accepted, refused, ended}
use Rattle.print.specs.Advance.{Place, over, running_print, at_end, print_lines, most_put}
use Rattle.interpreter.proofs.ActLaws.{accepted, not_accepted}

-- ---- the rows of the motors

rows_last : (scan n : ℕ) (ms : List Motor) (m : Motor) → rows_of scan n (ms ++ (m ∷ [])) ≡ rows_of scan n ms ++ row_of (motor_row scan (n + length ms) m)
unfolding rows_of
rows_last scan n [] m = append-nil _ ∙ ap (λ (k : ℕ). row_of (motor_row scan k m)) (sym (add-zero n))
rows_last scan n (x ∷ ms) m =
    let e : n + 1 + length ms ≡ n + suc (length ms) = omega arith in
    rw (rows_last scan (n + 1) ms m, append_assoc, e)

-- one motor more
pub rows_more : (scan i : ℕ) (ms : List Motor) (d : Motor) → i < length ms
    → rows_of scan 1 (take (i + 1) ms) ≡ rows_of scan 1 (take i ms) ++ row_of (motor_row scan (i + 1) (get_or ms i d))
rows_more scan i ms d h =
    let e : 1 + length (take i ms) ≡ i + 1 = omega (arith, length-take-le i ms (omega arith)) in
    rw (add-one i) (ap (rows_of scan 1) (take-suc ms i d h) ∙ rows_last scan 1 (take i ms) (get_or ms i d) ∙ rw (e, add-one i))

rows_length : (scan n : ℕ) (ms : List Motor) → length (rows_of scan n ms) ≤ 90 * length ms
unfolding rows_of
rows_length scan n [] = omega arith
rows_length scan n (m ∷ ms) =
    omega (arith, length-append (row_of (motor_row scan n m)) (rows_of scan (n + 1) ms), row_length (motor_row scan n m), rows_length scan (n + 1) ms)

pub answer_length : (t : State) (r : Request) → length t.motors ≤ 32 → length (answer_of t r) ≤ most_put
unfolding answer_of
answer_length t (M number ops1 ops2 w u) h = omega arith
answer_length t (I number word) h = omega arith
answer_length t (S period) h = omega (arith, rows_length t.scans 1 t.motors)
answer_length t Refused h = omega arith

-- ---- the T lines of the motors

-- one motor more, in the loop over them
pub totals_put : {from here later : Page} {whole : List ℕ} (n : ℕ) {m : Motor} {t : Totals} {ns ms : List Motor} {us ts : List Totals} → ns ≡ m ∷ ms → us ≡ t ∷ ts
    → Completes from whole here (running_print n ns us) → Puts here (totals_row_of (totals_row n (under_way_in m.status) t)) later
    → Completes from whole later (running_print (n + 1) ms ts)
unfolding running_print
totals_put n h k more = one_more more (rw (h, k))

-- and none left
totals_over : (n : ℕ) (ms : List Motor) (ts : List Totals) → (length ms ≡ 0) ⊎ (length ts ≡ 0) → running_print n ms ts ≡ []
unfolding running_print
totals_over n [] ts h = refl
totals_over n (m ∷ ms) [] h = refl
totals_over n (m ∷ ms) (t ∷ ts) (inl h) = absurd (omega (arith, h))
totals_over n (m ∷ ms) (t ∷ ts) (inr h) = absurd (omega (arith, h))

pub totals_end : {from here : Page} {whole : List ℕ} (n : ℕ) (ms : List Motor) (ts : List Totals) → (length ms ≡ 0) ⊎ (length ts ≡ 0)
    → Completes from whole here (running_print n ms ts) → Puts from whole here
totals_end n ms ts h more = none_left more (totals_over n ms ts h)

totals_print_length : (n : ℕ) (ms : List Motor) (ts : List Totals) → length (running_print n ms ts) ≤ 101 * length ms
unfolding running_print
totals_print_length n [] ts = omega arith
totals_print_length n (m ∷ ms) [] = omega arith
totals_print_length n (m ∷ ms) (t ∷ ts) =
    let r = totals_row n (under_way_in m.status) t in
    omega (arith, length-append (totals_row_of r) (running_print (n + 1) ms ts), totals_length r, totals_print_length (n + 1) ms ts)

pub end_length : (t : State) → length t.motors ≤ 32 → length (at_end t) ≤ most_put
unfolding at_end
end_length t h = omega (arith, totals_print_length 1 t.motors t.totals)

-- ---- the first of some requests

module _ (end : List ℕ) (r : Request) (rs : List Request) (t : State) (k : ℕ) where
  pub from_accepted : refusal_for t r ≡ 0 → print_from end (r ∷ rs) t k ≡ answer_of (changed t r) r ++ print_from end rs (changed t r) (next_number k)
  unfolding print_from when◌then◌else◌
  from_accepted h = rw (eq-eqb (refusal_for t r) 0 h)

  pub from_refused : (refusal_for t r ≡ 0 → ⊥) → print_from end (r ∷ rs) t k ≡ refusal_of k (refusal_for t r)
  unfolding print_from when◌then◌else◌
  from_refused h = rw (ne_eqb (refusal_for t r) 0 h)

-- ---- what is left to print from a place on

unfoldable pub rest_from : List ℕ → ℕ → State → ℕ → List ℕ
rest_from file at t k =
    let rs = requests_of (drop at file) in
    when ltb (length file) at then [] else print_from (at_end (states_after t rs)) rs t k

abbrev pub rest_at : List ℕ → Place → List ℕ
rest_at file p = rest_from file p.at p.state p.line

module _ (file : List ℕ) (at : ℕ) (t : State) (k : ℕ) where
  pub rest_past : length file < at → rest_from file at t k ≡ []
  unfolding rest_from when◌then◌else◌
  rest_past h = rw (lt-ltb (length file) at h)

  pub rest_from_lem : at ≤ length file → rest_from file at t k ≡ print_from (at_end (states_after t (requests_of (drop at file)))) (requests_of (drop at file)) t k
  unfolding rest_from when◌then◌else◌
  rest_from_lem h = rw (le-ltb (length file) at h)

  -- at the end
  pub rest_end : at ≤ length file → length file ≤ at → rest_from file at t k ≡ at_end t
  unfolding print_from states_after
  rest_end h l = rest_from_lem h ∙ rw (requests_end file at l)

  module _ {r : Request} {next : ℕ} (s : Step file at r next) where
    here : rest_from file at t k ≡ print_from (at_end (states_after t (r ∷ s.rest))) (r ∷ s.rest) t k
    here = rest_from_lem (omega (arith, s.further, s.within)) ∙ rw s.here

    pub rest_accepted : refusal_for t r ≡ 0 → rest_from file at t k ≡ answer_of (changed t r) r ++ rest_from file next (changed t r) (next_number k)
    unfolding rest_from states_after when◌then◌else◌
    rest_accepted h =
        here ∙ from_accepted (at_end (states_after t (r ∷ s.rest))) r s.rest t k h
        ∙ rw (accepted t r h, s.goes_on (not_accepted t r h), le-ltb (length file) next s.within)

    pub rest_refused : (refusal_for t r ≡ 0 → ⊥) → rest_from file at t k ≡ refusal_of k (refusal_for t r)
    rest_refused h = here ∙ from_refused (at_end (states_after t (r ∷ s.rest))) r s.rest t k h

-- ---- the lines that were taken, and what is left

-- past the end nothing is left
nothing_left : (file : List ℕ) (p : Place) (piece : List ℕ) → piece ≡ piece ++ rest_at file (over file p)
nothing_left file p piece = sym (ap (λ (l : List ℕ). piece ++ l) (rest_past file (length file + 1) p.state p.line (omega arith)) ∙ append-nil piece)

module _ {file : List ℕ} {from : Place} where
  pub through_rest : {piece : List ℕ} {p : Place} → Through print_lines file from piece p → rest_at file from ≡ piece ++ rest_at file p
  through_rest none = refl
  through_rest (one_accepted {piece} {p} {r} {next} c f h) =
      through_rest c
      ∙ ap (λ (l : List ℕ). piece ++ l) (rest_accepted file p.at p.state p.line (taken file p.at r next f) h)
      ∙ sym (append_assoc piece (answer_of (changed p.state r) r) _)
  through_rest (refused {piece} {p} {r} {next} c f h) =
      through_rest c
      ∙ ap (λ (l : List ℕ). piece ++ l) (rest_refused file p.at p.state p.line (taken file p.at r next f) h)
      ∙ nothing_left file p (piece ++ refusal_of p.line (refusal_for p.state r))
  through_rest (ended {piece} {p} c l f) =
      through_rest c
      ∙ ap (λ (l : List ℕ). piece ++ l) (rest_end file p.at p.state p.line l (done file p.at f))
      ∙ nothing_left file p (piece ++ at_end p.state)
