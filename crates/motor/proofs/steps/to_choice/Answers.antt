use Rattle.std.proofs.Common.{◌≡◌, refl, sym, ℕ, Bool, true, false, not, eqb, unwrap_or, eqb-true}
use Rattle.std.specs.Bool.{then_some}
use Rattle.rules.specs.Record.{command_of}
use Rattle.rules.specs.Steps.{to_choice}
use Rattle.motor.proofs.steps.to_choice.Goals as goal

-- the number of a command, 0 for none
number_back : (k : ℕ) → unwrap_or (command_of k) 0 ≡ k
number_back k = go (eqb k 0) refl
  where
    go : (z : Bool) → eqb k 0 ≡ z → unwrap_or (then_some (not z) k) 0 ≡ k
    go true e = sym (eqb-true k 0 e)
    go false e = refl

pub returns : goal.returns
unfolding to_choice
returns c =
    rw (c.with_status.ensures, c.acknowledge.ensures, c.unwrap_or.ensures, c.choice.ensures, c.change_mode-v.ensures, number_back _) refl
