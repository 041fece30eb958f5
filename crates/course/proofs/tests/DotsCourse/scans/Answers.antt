use Rattle.std.proofs.Common.{arith}
use Rattle.course.specs.Dots.{other}
use Rattle.course.proofs.Runs.{no_lines}
use Rattle.course.proofs.tests.DotsCourse.scans.Goals as goal

pub returns : goal.returns
unfolding other
returns c = no_lines (λ room period next f none. absurd (omega (arith, none)))
