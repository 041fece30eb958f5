use Rattle.std.proofs.Common.{◌+◌}
use Rattle.report.proofs.PutLaws.{Completes}
use Rattle.interpreter.specs.State.{view_of}
use Rattle.print.specs.Advance.{running_print, at_end}
use Rattle.print.proofs.lines.put_end.Given as goal

abbrev pub invariant-loop-i : goal.invariant-loop-i
invariant-loop-i l =
    let i = l.i-iterator in
    Completes l.initial.page (at_end (view_of l.fn.b)) l.page (running_print (i.count + 1) i.iter.a.rest.now i.iter.b.rest.now)
