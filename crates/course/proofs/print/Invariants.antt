use Rattle.std.proofs.Common.{◌+◌, ◌-◌, length}
use Rattle.course.specs.Walk.{place}
use Rattle.course.proofs.Written.{Written}
use Rattle.course.proofs.print.Given as goal

abbrev pub invariant-loop-bytes : goal.invariant-loop-bytes
invariant-loop-bytes g l = Written g.C.Course.walk l.file (g.W.Write.contents l.fn.to) (g.W.Write.contents l.to) l.here

abbrev pub decreases-loop-bytes : goal.decreases-loop-bytes
decreases-loop-bytes g l = length l.file + 1 - place g.C.Course.walk l.here
