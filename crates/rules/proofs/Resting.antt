-- A scan of a motor at rest changes its status alone. Assumes nothing.
use Prim.Native.Nat.{ℕ}
use mathlib.Core.Path.{◌≡◌, refl, ◌∙◌}
use mathlib.Core.Bool.{true, not, ◌&&◌}
use lib.Dec.{eqb}
use borrow.Author.Tests.{eqb-true, not-true}
use Rattle.rules.specs.declared.Motor.{Motor}
use Rattle.rules.specs.Record.{risen, idle, with_status}
use Rattle.rules.specs.Steps.{reading, running, steps1to5, step}
use Rattle.rules.specs.Resting.{rests, rested_status}
use Rattle.words.proofs.Laws.{and_true}
use Rattle.rules.proofs.Quiet.{quiet, closed, idle_first}

pub resting : (m : Motor) (word period : ℕ) → rests m.settings m.status m.output word ≡ true
    → step m word period ≡ with_status m (rested_status m.settings m.status word (reading m.settings word))
unfolding step rests rested_status with_status
resting m word period h =
    let s = m.settings in
    let v = m.status in
    let both = and_true (idle v && not (running s m.output)) (eqb (risen v word) 0) h in
    let at_rest = and_true (idle v) (not (running s m.output)) both.0 in
    rw (quiet m word period (eqb-true _ _ both.1), closed (steps1to5 m word period) word, idle_first m word period at_rest.0 (not-true _ at_rest.1)) refl
