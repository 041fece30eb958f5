-- A motor at rest in a scan. It is no rule, but what code may do in place of the ten steps: proofs/Resting.antt shows that it is the same.
use Rattle.std.specs.Prelude.{ℕ, Bool, not, ◌&&◌, eqb}
use Rattle.rules.specs.declared.Settings.{Settings}
use Rattle.rules.specs.declared.Status.{Status}
use Rattle.rules.specs.declared.Output.{Output}
use Rattle.rules.specs.declared.Reading.{Reading}
use Rattle.rules.specs.Record.{risen, idle}
use Rattle.rules.specs.Steps.{running, status1, status2, status5, status10}

-- No command is under way, no pulse runs, and no bit of the word has risen.
unfoldable pub rests : Settings → Status → Output → ℕ → Bool
rests s v o word = idle v && not (running s o) && eqb (risen v word) 0

-- Steps 1, 2 and 5, which are all of the first five where no command is under way and no pulse runs; r is what the switches read
unfoldable pub idle_status : Settings → Status → ℕ → Reading → Status
idle_status s v word r = status5 s (status2 s (status1 v word) r) word r

-- At rest they and step 10 are all that is left to do, and they concern the status alone.
unfoldable pub rested_status : Settings → Status → ℕ → Reading → Status
rested_status s v word r = status10 (idle_status s v word r) word
