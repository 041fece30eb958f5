-- A command, and a position that is read, come back from an Option that is none at 0.
-- Assumes nothing.
use mathlib.Core.Path.{◌≡◌, refl, sym}
use mathlib.Core.Bool.{Bool, true, false, not}
use Prim.Native.Nat.{ℕ}
use lib.Dec.{eqb}
use borrow.Author.Tests.{eqb-true}
use Rattle.std.specs.Prelude.{unwrap_or}
use Rattle.std.specs.Bool.{then_some}
use Rattle.rules.specs.declared.Reading.{Reading}
use Rattle.rules.specs.declared.Reading.TheVariants.{Off, On, BothOpen, BothClosed}
use Rattle.rules.specs.Record.{no_command, command_of, unsure}
use Rattle.rules.specs.Steps.{position_read, is_sure}

pub command_back : (c : ℕ) → unwrap_or (command_of c) no_command ≡ c
command_back c = go (eqb c 0) refl
  where
    go : (z : Bool) → eqb c 0 ≡ z → unwrap_or (then_some (not z) c) 0 ≡ c
    go true e = sym (eqb-true c 0 e)
    go false e = refl

pub position_back : (r : Reading) → unwrap_or (then_some (is_sure r) (position_read r)) unsure ≡ position_read r
unfolding is_sure position_read
position_back Off = refl
position_back On = refl
position_back BothOpen = refl
position_back BothClosed = refl
