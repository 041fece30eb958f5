use Rattle.std.proofs.Common.{ap, arith}
use Rattle.std.specs.Prelude.{length}
use Rattle.course.proofs.Pieces.{begin_exact, fill_exact}
use Rattle.course.proofs.Written.{opening_written, more_written}
use Rattle.course.proofs.print.Goals as goal

pub loop-bytes-init : goal.loop-bytes-init
loop-bytes-init g c =
    let laws = g.met.C.Course.laws in
    let begun = c.begin-here.ensures in
    let exact = begin_exact laws begun c.new-opening.ensures.used (omega (arith, laws.room, ap length c.new-opening.ensures.bytes)) in
    opening_written begun (rw (c.filled.ensures, exact) at c.in_ok-write_all.ensures.bytes)

pub loop-bytes-preserved : goal.loop-bytes-preserved
loop-bytes-preserved g c =
    let exact = fill_exact c.fill.ensures c.new-page.ensures.used in
    more_written c.loop-bytes.invariant c.fill.ensures.run.through (rw (c.filled-in-loop-bytes.ensures, exact) at c.in_ok-write_all-2.ensures.bytes)
