use Rattle.std.proofs.Common.{arith}
use Rattle.interpreter.specs.Lines.InputLines.{none, one_more}
use Rattle.interpreter.proofs.LineLaws.{closer}
use Rattle.interpreter.proofs.lines.Inputs.take.Goals as goal

pub loop-input-init : goal.loop-input-init
loop-input-init c = none

pub loop-input-smaller : goal.loop-input-smaller
loop-input-smaller c = closer _ _ _ _ _ (omega arith) c.in-Some.ensures.found.0

pub loop-input-preserved : goal.loop-input-preserved
loop-input-preserved c =
    let found = c.in-Some.ensures.found in
    rw c.next_number-self.ensures (one_more c.loop-input.invariant found.0 found.1)
