use Rattle.std.proofs.Common.{refl, lt-ltb, le-ltb}
use Rattle.std.specs.Prelude.{length}
use Rattle.words.specs.Word.{when◌then◌else◌}
use Rattle.report.proofs.PutLaws.{puts_none}
use Rattle.course.specs.Dots.{dots_opening}
use Rattle.course.proofs.DotsLaws.{dots_begun}
use Rattle.course.proofs.tests.DotsCourse.begin.Goals as goal

pub returns-then-file-gt65536 : goal.returns-then-file-gt65536
unfolding dots_opening when◌then◌else◌
returns-then-file-gt65536 c =
    let long = lt-ltb 65536 (length c.args.file.now) c.if-file-gt65536.true in
    dots_begun _ (rw long refl) (rw long c.byte.ensures)

pub returns : goal.returns
unfolding dots_opening when◌then◌else◌
returns c =
    let short = le-ltb 65536 (length c.args.file.now) c.if-file-gt65536.false in
    dots_begun _ (rw short refl) (rw short puts_none)
