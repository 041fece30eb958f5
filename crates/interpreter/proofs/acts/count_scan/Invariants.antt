use Rattle.std.proofs.Common.{◌≡◌, take}
use Rattle.totals.specs.Running.{all_totals}
use Rattle.interpreter.proofs.acts.count_scan.Given as goal

abbrev pub invariant-loop-i : goal.invariant-loop-i
invariant-loop-i l = l.totals ≡ all_totals l.initial.totals l.before (take l.i l.words) l.period
