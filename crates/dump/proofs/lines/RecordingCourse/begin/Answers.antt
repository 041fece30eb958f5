use Rattle.std.proofs.Common.{sym, ap, ◌∙◌, ◌≡◌, length, ◌+◌}
use Rattle.words.specs.Word.{when◌then◌else◌}
use Rattle.report.proofs.PutLaws.{puts_none}
use Rattle.interpreter.specs.State.{State, too_long}
use Rattle.dump.specs.Advance.{moment, Begins}
use Rattle.dump.proofs.ReadBack.{claimed}
use Rattle.dump.proofs.Pieces.{whole}
use Rattle.dump.proofs.lines.RecordingCourse.begin.Goals as goal
use Rattle.dump.proofs.lines.RecordingCourse.begin.Goals.{then-is_too_long, else-is_too_long}

pub returns : goal.returns
unfolding when◌then◌else◌
returns c =
    let file = c.args.file.now in
    let at : c.if-is_too_long.at ≡ (when too_long (length file) then length file + 1 else 0) =
    elim c.if-is_too_long.branch [
      | then-is_too_long w ↦ w.at-is ∙ rw (sym c.is_too_long.ensures ∙ w.if-is_too_long.true)
      | else-is_too_long w ↦ w.at-is ∙ rw (sym c.is_too_long.ensures ∙ w.if-is_too_long.false)
    ] in
    let begins : Begins file (record { bench = c.empty.result; at = c.if-is_too_long.at; time = 0 }) =
    record { at = at; moment_is = ap (λ (t : State). moment c.if-is_too_long.at t 0) c.empty.ensures; claim = claimed file } in
    record { put = puts_none; begins = begins; whole = λ {piece} {d} through past. whole begins d through past }
