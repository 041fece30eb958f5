-- The example's dots, line by line, are those of the whole file. Assumes nothing.
use Rattle.std.proofs.Common.{ℕ, ◌+◌, ◌<◌, ◌≤◌, ◌≡◌, Bool, true, false, List, [], ◌∷◌, ◌++◌, length, drop, refl, sym, ap, ◌∙◌, append-nil, append_assoc, lt-ltb, le-ltb, ne_eqb, arith}
use Rattle.std.specs.Prelude.{ltb}
use Rattle.words.specs.Word.{when◌then◌else◌}
use Rattle.sheet.specs.Grammar.{requests_of}
use Rattle.sheet.specs.declared.Request.{Request}
use Rattle.sheet.specs.declared.Request.TheVariants.{Refused}
use Rattle.sheet.proofs.RequestLaws.{Step, requests_end, taken, done}
use Rattle.course.specs.Through.{Through}
use Rattle.course.specs.Through.Through.{none, accepted, refused, ended}
use Rattle.report.specs.Puts.{Puts}
use Rattle.report.specs.declared.page.Page.{Page}
use Rattle.course.specs.Walk.{Begin}
use Rattle.course.specs.Dots.{other, dots_of, dots_opening, dots_text, dots_lines, dots}

unfoldable left : List ℕ → ℕ → List ℕ
left file at = when ltb (length file) at then [] else dots_of (requests_of (drop at file))

left_past : (file : List ℕ) (at : ℕ) → length file < at → left file at ≡ []
unfolding left when◌then◌else◌
left_past file at h = rw (lt-ltb (length file) at h)

left_here : (file : List ℕ) (at : ℕ) → at ≤ length file → left file at ≡ dots_of (requests_of (drop at file))
unfolding left when◌then◌else◌
left_here file at h = rw (le-ltb (length file) at h)

readable : (r : Request) → other r ≡ 0 → r ≡ Refused → ⊥
unfolding other
readable r h e = absurd (omega (arith, rw e at h))

module _ {file : List ℕ} {at : ℕ} {r : Request} {next : ℕ} (s : Step file at r next) where
  left_accepted : other r ≡ 0 → left file at ≡ (46 ∷ []) ++ left file next
  unfolding dots_of when◌then◌else◌
  left_accepted h = left_here file at (omega (arith, s.further, s.within)) ∙ rw (s.here, h, s.goes_on (readable r h)) (ap (λ (l : List ℕ). 46 ∷ l) (sym (left_here file next s.within)))

  left_refused : (other r ≡ 0 → ⊥) → left file at ≡ 33 ∷ []
  unfolding dots_of when◌then◌else◌
  left_refused h = left_here file at (omega (arith, s.further, s.within)) ∙ rw (s.here, ne_eqb (other r) 0 h)

nothing_left : (file piece : List ℕ) → piece ≡ piece ++ left file (length file + 1)
nothing_left file piece = sym (rw (left_past file (length file + 1) (omega arith)) (append-nil piece))

through_left : {file : List ℕ} {from : ℕ} {piece : List ℕ} {p : ℕ} → Through dots_lines file from piece p → left file from ≡ piece ++ left file p
unfolding dots_of
through_left none = refl
through_left {file} (accepted {piece} {p} {r} {next} c f h) =
    through_left c ∙ ap (λ (l : List ℕ). piece ++ l) (left_accepted (taken file p r next f) h) ∙ sym (append_assoc piece (46 ∷ []) _)
through_left {file} (refused {piece} {p} {r} {next} c f h) =
    through_left c ∙ ap (λ (l : List ℕ). piece ++ l) (left_refused (taken file p r next f) h) ∙ nothing_left file (piece ++ (33 ∷ []))
through_left {file} (ended {piece} {p} c m f) =
    through_left c ∙ ap (λ (l : List ℕ). piece ++ l) (left_here file p m ∙ rw (requests_end file p (done file p f))) ∙ nothing_left file (piece ++ [])

pub dots_whole : {file piece : List ℕ} {from p : ℕ} → from ≡ (when ltb 65536 (length file) then length file + 1 else 0) → Through dots_lines file from piece p → length file < p
    → dots_text file ≡ dots_opening file ++ piece
unfolding dots_text dots_opening when◌then◌else◌
dots_whole {file} {piece} {from} {p} b through past = go (ltb 65536 (length file)) refl b
  where
    all : left file from ≡ piece
    all = through_left through ∙ rw (left_past file p past) (append-nil piece)

    go : (z : Bool) → ltb 65536 (length file) ≡ z → from ≡ (when z then length file + 1 else 0)
        → (when z then 33 ∷ [] else dots_of (requests_of file)) ≡ (when z then 33 ∷ [] else []) ++ piece
    go true e f = ap (λ (l : List ℕ). 33 ∷ l) (sym (left_past file from (omega (arith, f))) ∙ all)
    go false e f = sym (left_here file 0 (omega arith)) ∙ ap (left file) (sym f) ∙ all

pub dots_begun : {C : Type 0} (at : C → ℕ) {file : List ℕ} {c : C} {page after : Page} → at c ≡ (when ltb 65536 (length file) then length file + 1 else 0)
    → Puts page (dots_opening file) after → Begin (dots at) file c page after
dots_begun at begins put = record { put = put; begins = begins; whole = λ {piece} {d} through past. dots_whole begins through past }
