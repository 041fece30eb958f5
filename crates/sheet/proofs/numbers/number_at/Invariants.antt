use Prim.Native.Nat.{◌-◌}
use lib.ListN.{length}
use Rattle.sheet.proofs.NumberRunLaws.{Run}
use Rattle.sheet.proofs.numbers.number_at.Given as goal

-- the digits from `at` up to i say the value
abbrev pub invariant-loop-digit : goal.invariant-loop-digit
invariant-loop-digit l = Run l.file l.at l.value l.i

abbrev pub decreases-loop-digit : goal.decreases-loop-digit
decreases-loop-digit l = length l.file - l.i
