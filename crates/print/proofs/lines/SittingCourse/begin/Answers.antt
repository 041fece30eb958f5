use Rattle.std.proofs.Common.{refl, sym, ◌∙◌}
use Rattle.words.specs.Word.{when◌then◌else◌}
use Rattle.report.proofs.PutLaws.{puts_none}
use Rattle.print.specs.Advance.{opening}
use Rattle.print.proofs.Pieces.{begun}
use Rattle.print.proofs.lines.SittingCourse.begin.Goals as goal
use Rattle.print.proofs.lines.SittingCourse.begin.Goals.{then-is_too_long, else-is_too_long}

pub returns : goal.returns
unfolding opening when◌then◌else◌
returns c =
    elim c.if-is_too_long.branch [
      | then-is_too_long w ↦
          let long = sym c.is_too_long.ensures ∙ w.if-is_too_long.true in
          rw (w.page-is, w.at-is) (begun (record { at = rw long refl; state = c.empty.ensures; line = refl }) (rw long (rw w.from.ensures at w.refusal.ensures)))
      | else-is_too_long w ↦
          let short = sym c.is_too_long.ensures ∙ w.if-is_too_long.false in
          rw (w.page-is, w.at-is) (begun (record { at = rw short refl; state = c.empty.ensures; line = refl }) (rw short puts_none))
    ]
