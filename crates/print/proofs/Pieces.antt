-- The pieces that `begin` and `fill` put, one call after another up to the end, are together the whole print. Assumes nothing.
use Prim.Native.Nat.{ℕ, ◌+◌, ◌<◌}
use mathlib.Core.Path.{◌≡◌, refl, sym, ap, ◌∙◌}
use mathlib.Core.Bool.{Bool, true, false}
use mathlib.Core.List.{List, [], ◌++◌, append-nil}
use native.Mathlib.Omega.{arith}
use lib.ListN.{length}
use lib.Dec.{ltb}
use borrow.Author.Tests.{ltb-true, ltb-false}
use Rattle.words.specs.Word.{when◌then◌else◌}
use Rattle.report.specs.Print.{refusal_of}
use Rattle.interpreter.specs.State.{empty_state, view_of, too_long}
use Rattle.report.specs.Puts.{Puts}
use Rattle.report.specs.declared.page.Page.{Page}
use Rattle.course.specs.Walk.{Leads, Begin}
use Rattle.course.proofs.Pieces.{Calls, together, all_through}
use Rattle.print.specs.Print.{print_of}
use Rattle.print.specs.Advance.{place_of, opening, Beginning}
use Rattle.print.specs.Course.{print_walk, print_long}
use Rattle.print.specs.declared.Sitting.{Sitting}
use Rattle.print.proofs.PrintLaws.{rest_from, rest_at, rest_past, through_rest}
use Rattle.print.proofs.Histories.{print_rest}

begun_rest : {file : List ℕ} {s : Sitting} → Beginning file s → print_of file ≡ opening file ++ rest_at file (place_of s)
unfolding opening too_long when◌then◌else◌
begun_rest {file} {s} b = rw (b.state, b.line) (go (ltb 65536 (length file)) refl b.at)
  where
    go : (z : Bool) → ltb 65536 (length file) ≡ z → s.at ≡ (when z then length file + 1 else 0)
        → print_of file ≡ (when z then refusal_of 0 1 else []) ++ rest_from file s.at empty_state 1
    go true e f = print_long file (ltb-true 65536 (length file) e) ∙ sym (rw (f, rest_past file (length file + 1) empty_state 1 (omega arith)) (append-nil (refusal_of 0 1)))
    go false e f = rw f (print_rest file (ltb-false 65536 (length file) e))

-- the lines from the beginning up to the end print the rest
pub whole : {file piece : List ℕ} {s : Sitting} (t : Sitting) → Beginning file s → Leads print_walk file s piece t → length file < t.at → print_of file ≡ opening file ++ piece
whole {file} {piece} t b through past =
    begun_rest b ∙ ap (λ (l : List ℕ). opening file ++ l) (through_rest through ∙ rw (rest_past file t.at _ _ past) (append-nil piece))

pub calls_print : {file : List ℕ} {s : Sitting} {ps : List (List ℕ)} → Beginning file s → Calls print_walk file s ps → print_of file ≡ opening file ++ together ps
calls_print b calls = let (t, through, past) = all_through calls in whole t b through past

-- what `begin` leaves
pub begun : {file : List ℕ} {s : Sitting} {page after : Page} → Beginning file s → Puts page (opening file) after → Begin print_walk file s page after
begun b p = record { put = p; begins = b; whole = λ {piece} {d} through past. whole d b through past }

pub begun_long : {file : List ℕ} {s : Sitting} {page after : Page} → view_of s.bench ≡ empty_state → too_long (length file) ≡ true → s.at ≡ length file + 1 → s.line ≡ 1
    → Puts page (refusal_of 0 1) after → Begin print_walk file s page after
unfolding opening when◌then◌else◌
begun_long e h at line p = begun (record { at = rw h at; state = e; line = line }) (rw h p)
