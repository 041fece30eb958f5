use mathlib.Core.Path.{ap}
use Prim.Native.Nat.{ℕ}
use lib.Dec.{eqb}
use Rattle.status.proofs.Modes.{counted}
use Rattle.status.proofs.mode.is_one_mode_risen.Goals as goal

pub returns : goal.returns
returns c = rw c.risen.ensures (ap (λ (n : ℕ). eqb n 1) (counted c.args.v c.args.word).many)
