use Prim.Native.Nat.{◌-◌}
use lib.ListN.{length}
use Rattle.sheet.proofs.HexRunLaws.{Run}
use Rattle.sheet.proofs.word_fields.hex_run.Given as goal

abbrev pub invariant-loop-digit : goal.invariant-loop-digit
invariant-loop-digit l = Run l.s l.at l.value l.i

abbrev pub decreases-loop-digit : goal.decreases-loop-digit
decreases-loop-digit l = length l.s - l.i
