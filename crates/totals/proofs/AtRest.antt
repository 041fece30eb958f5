-- A scan of a motor at rest issues no command and ends none, so that of its running totals only the time On can change. Assumes nothing.
use Prim.Native.Nat.{ℕ}
use mathlib.Core.Path.{◌≡◌, refl}
use mathlib.Core.Bool.{true}
use Rattle.words.specs.Word.{when◌then◌else◌}
use Rattle.rules.specs.declared.Motor.{Motor}
use Rattle.rules.specs.declared.Reading.{Reading}
use Rattle.rules.specs.Record.{idle, with_positions, with_command, with_flags, with_previous}
use Rattle.rules.specs.Steps.{status1, status2, status5, status10}
use Rattle.rules.specs.Resting.{idle_status, rested_status}
use Rattle.totals.specs.declared.Totals.{Totals}
use Rattle.totals.specs.Running.{counted_if, has_issued, on_after, totals_after}

abbrev pub with_on : Totals → ℕ → Totals
with_on t on =
    record {
      issued = t.issued;
      confirmed = t.confirmed;
      displaced = t.displaced;
      overdue = t.overdue;
      on = on;
      best = t.best;
      worst = t.worst;
    }

pub rest_totals : (t : Totals) (m : Motor) (word period : ℕ) (r : Reading) → idle m.status ≡ true
    → totals_after t m (rested_status m.settings m.status word r) r period ≡ with_on t (on_after t.on r period)
unfolding totals_after counted_if has_issued rested_status idle_status status10 status5 status2 status1 with_previous with_flags with_positions with_command idle when◌then◌else◌
rest_totals t m word period r e = rw e refl
