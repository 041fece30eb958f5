-- What calls of `fill` put after `begin`, one after another up to the end of a file, are together its whole dump. Assumes nothing.
use Rattle.std.proofs.Common.{ℕ, ◌+◌, ◌<◌, ◌≤◌, ◌≡◌, refl, sym, ap, ◌∙◌, Bool, true, false, List, [], ◌++◌, append-nil, length, ltb-true, ltb-false, arith}
use Rattle.std.specs.Prelude.{ltb}
use borrow.Author.Tests.{le-ltb}
use Rattle.words.specs.Word.{when◌then◌else◌}
use Rattle.sheet.proofs.RequestLaws.{taken}
use Rattle.interpreter.specs.State.{empty_state, too_long}
use Rattle.vcd.specs.Text.{recording_text}
use Rattle.course.specs.Through.{Through}
use Rattle.course.specs.Through.Through.{none, accepted, refused, ended}
use Rattle.course.specs.Walk.{Leads}
use Rattle.course.proofs.Pieces.{Calls, together, all_through}
use Rattle.dump.specs.Dump.{opening, requests_dump, dump_of}
use Rattle.dump.specs.Laws.{dump_long}
use Rattle.dump.specs.Advance.{Moment, moment, moment_of, dump_lines, first_text, Begins, dump_walk}
use Rattle.dump.specs.declared.Recording.{Recording}
use Rattle.dump.proofs.DumpLaws.{left_of, rest_from, rest_past, rest_from_lem, Early, through_rest}

-- Past the end of a file no line is taken.
none_past : {file : List ℕ} {from : Moment} → length file < from.at → {piece : List ℕ} {p : Moment} → Through dump_lines file from piece p → (piece ≡ []) × (length file < p.at)
none_past h none = (refl, h)
none_past {file} h (accepted {p = p} {r} {next} c f a) = let s = taken file p.at r next f in absurd (omega (arith, (none_past h c).1, s.further, s.within))
none_past {file} h (refused {p = p} {r} {next} c f a) = let s = taken file p.at r next f in absurd (omega (arith, (none_past h c).1, s.further, s.within))
none_past h (ended c l f) = absurd (omega (arith, (none_past h c).1))

-- ---- the whole dump

dump_rest : (file : List ℕ) → length file ≤ 65536 → dump_of file ≡ rest_from file (moment 0 empty_state 0)
unfolding dump_of requests_dump recording_text left_of first_text opening empty_state too_long when◌then◌else◌
dump_rest file h = rw (le-ltb 65536 (length file) h, rest_from_lem file (moment 0 empty_state 0) (omega arith))

-- What the lines from the beginning up to the end add is the dump.
pub whole : {file : List ℕ} {c : Recording} {piece : List ℕ} → Begins file c → (d : Recording) → Leads dump_walk file c piece d → length file < d.at → dump_of file ≡ piece
unfolding too_long when◌then◌else◌
whole {file} {c} {piece} b d through past = go (ltb 65536 (length file)) refl b.at
  where
    go : (z : Bool) → ltb 65536 (length file) ≡ z → c.at ≡ (when z then length file + 1 else 0) → dump_of file ≡ piece
    go true e f = dump_long file (ltb-true 65536 (length file) e) ∙ sym (none_past (omega (arith, f)) through).0
    go false e f =
        let few = ltb-false 65536 (length file) e in
        let start : moment_of c ≡ moment 0 empty_state 0 = b.moment_is ∙ ap (λ (i : ℕ). moment i empty_state 0) f in
        let early : Early (moment_of c) = omega (arith, ap (λ (p : Moment). p.time) start) in
        dump_rest file few ∙ ap (rest_from file) (sym start) ∙ through_rest early few through
        ∙ ap (λ (l : List ℕ). piece ++ l) (rest_past file (moment_of d) past) ∙ append-nil piece

pub calls_dump : {file : List ℕ} {c : Recording} {ps : List (List ℕ)} → Begins file c → Calls dump_walk file c ps → dump_of file ≡ together ps
calls_dump b calls = let (d, through, past) = all_through calls in whole b d through past
