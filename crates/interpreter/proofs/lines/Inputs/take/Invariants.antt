use Rattle.std.proofs.Common.{◌-◌, length}
use Rattle.interpreter.specs.Lines.{InputLines}
use Rattle.interpreter.proofs.lines.Inputs.take.Given as goal

abbrev pub invariant-loop-input : goal.invariant-loop-input
invariant-loop-input l = InputLines l.file l.held l.initial.self.words l.initial.self.at l.initial.self.line l.self.words l.self.at l.self.line

abbrev pub decreases-loop-input : goal.decreases-loop-input
decreases-loop-input l = length l.file - l.self.at
