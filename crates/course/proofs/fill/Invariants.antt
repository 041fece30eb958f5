use Rattle.std.proofs.Common.{◌+◌, ◌-◌, length}
use Rattle.course.specs.Walk.{place, Run}
use Rattle.course.proofs.fill.Given as goal

abbrev pub invariant-loop-here : goal.invariant-loop-here
invariant-loop-here g l = Run g.C.Course.walk l.file l.initial.here l.initial.page l.here l.page

abbrev pub decreases-loop-here : goal.decreases-loop-here
decreases-loop-here g l = length l.file + 1 - place g.C.Course.walk l.here
