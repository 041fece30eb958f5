use Rattle.std.proofs.Common.{arith}
use Rattle.course.specs.Walk.{Room}
use Rattle.course.proofs.Runs.{run_on, run_and_line}
use Rattle.course.proofs.fill.Goals as goal

pub loop-here-preserved-then-MOST_PUT-room : goal.loop-here-preserved-then-MOST_PUT-room
loop-here-preserved-then-MOST_PUT-room g c =
    let room : Room g.C.Course.walk c.scans.new.page = omega (arith, g.met.C.Course.most_put, c.if-MOST_PUT-room.true) in
    run_and_line (run_on c.loop-here.invariant c.scans.ensures.run) room (c.line.ensures (c.scans.ensures.within (grind arith)) (c.scans.ensures.over room))
