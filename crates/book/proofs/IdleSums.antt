-- A sum that is idle is 0 in a motor that starts fresh: every scan keeps it so. Assumes nothing.
use Rattle.std.proofs.Common.{◌≡◌, ℕ, Bool, true, false, refl}
use Rattle.std.specs.Prelude.{eqb}
use Rattle.words.specs.Word.{when◌then◌else◌}
use Rattle.words.proofs.Laws.{either}
use Rattle.rules.specs.declared.Settings.{Settings}
use Rattle.rules.specs.declared.Status.{Status}
use Rattle.rules.specs.declared.Output.{Output}
use Rattle.rules.specs.declared.Motor.{Motor}
use Rattle.rules.specs.declared.Reading.{Reading}
use Rattle.rules.specs.Record.{no_command, idle, dropped, fresh, with_mode, with_positions, with_command, with_flags, with_previous, with_status}
use Rattle.rules.specs.Steps.{status1, status2, running, step3, ended, status4, time_up, drops, step4, status5, status6, status7, raised, without_opposite, output9, issue, step9, status10, steps1to5, to_choice, half, close, step}
use Rattle.rules.specs.Scans.{Input}
use Rattle.book.specs.Log.{Log, none, ◌▸◌}
use Rattle.book.specs.History.{Entry, record_after, history, record_of}
use Rattle.book.specs.Claim.{IdleSums}
use Rattle.book.proofs.Record.{record_is}

-- of a status, its command alone matters
status_kept : (m : Motor) (v : Status) → v.command ≡ m.status.command → IdleSums m → IdleSums (with_status m v)
unfolding with_status idle
status_kept m v e k = record { time = λ i. k.time (rw e at i); pulse = k.pulse }

kept3 : (m : Motor) (period : ℕ) → IdleSums m → IdleSums (step3 m period)
unfolding step3 running when◌then◌else◌
kept3 m period k = record { time = λ i. rw i (k.time i); pulse = λ i. rw i (k.pulse i) }

-- a command that has ended, or has not
sum4 : (ended : Bool) (c sum : ℕ) → (eqb c no_command ≡ true → sum ≡ 0) → eqb (when ended then no_command else c) no_command ≡ true
    → (when ended then 0 else sum) ≡ 0
unfolding when◌then◌else◌
sum4 true c sum k i = refl
sum4 false c sum k i = k i

abbrev IdlePulse : Settings → Output → Type 0
IdlePulse s o = running s o ≡ false → o.sum ≡ 0

kept4 : (m : Motor) (r : Reading) → IdleSums m → IdleSums (step4 m r)
unfolding step4 status4 with_flags with_command idle dropped
kept4 m r k =
    record {
      time = sum4 (ended m.status r (time_up m)) m.status.command m.sum k.time;
      pulse = either (IdlePulse m.settings) (drops m r) (λ i. refl) k.pulse;
    }

issue_kept : (m : Motor) (c : ℕ) → IdleSums m → IdleSums (issue m c)
unfolding issue output9 raised without_opposite dropped
issue_kept m c k =
    record {
      time = λ i. refl;
      pulse = either (IdlePulse m.settings) _ (λ i. refl) (either (IdlePulse m.settings) _ (λ i. refl) k.pulse);
    }

kept9 : (m : Motor) (c : ℕ) → IdleSums m → IdleSums (step9 m c)
unfolding step9
kept9 m c k = either IdleSums _ k (issue_kept m c k)

kept1to5 : (m : Motor) (word period : ℕ) → IdleSums m → IdleSums (steps1to5 m word period)
unfolding steps1to5 status1 status2 status5 with_command with_positions with_flags
kept1to5 m word period k = status_kept _ _ refl (kept4 _ _ (kept3 _ period (status_kept m _ refl k)))

kept : (m : Motor) (word period : ℕ) → IdleSums m → IdleSums (step m word period)
unfolding step half to_choice close status6 status7 status10 with_mode with_flags with_previous
kept m word period k = status_kept _ _ refl (kept9 _ _ (status_kept _ _ refl (kept1to5 m word period k)))

over_history : (s : Settings) (h : Log Input) → IdleSums (record_of s h)
unfolding record_of fresh dropped
over_history s none = record { time = λ i. refl; pulse = λ i. refl }
over_history s (h ▸ x) = kept (record_of s h) x.word x.period (over_history s h)

pub idle_sums_are : (s : Settings) (es : Log Entry) → IdleSums (record_after s es)
idle_sums_are s es = rw (record_is s es) (over_history s (history s es))
