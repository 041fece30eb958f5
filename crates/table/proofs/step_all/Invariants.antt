use Rattle.std.proofs.Common.{◌≡◌, take}
use Rattle.rules.specs.Refusals.{step_all}
use Rattle.table.proofs.step_all.Given as goal

-- the first i records are stepped
abbrev pub invariant-loop-i : goal.invariant-loop-i
invariant-loop-i l = l.table ≡ step_all l.initial.table (take l.i l.words) l.period
