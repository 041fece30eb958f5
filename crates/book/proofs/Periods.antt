-- Every scan in a history was accepted, so its period is one of a scan. Assumes nothing.
use Prim.Native.Nat.{ℕ, ◌*◌, ◌≤◌}
use native.Mathlib.Omega.{arith}
use mathlib.Core.Path.{◌≡◌, refl}
use mathlib.Core.Bool.{Bool, true, false, false≢true}
use borrow.Author.Tests.{eqb-true}
use Rattle.words.specs.Word.{when◌then◌else◌}
use Rattle.words.proofs.Laws.{both_le}
use Rattle.rules.specs.declared.Settings.{Settings}
use Rattle.rules.specs.declared.Motor.{Motor}
use Rattle.rules.specs.Refusals.{most_period, period_ok}
use Rattle.rules.specs.Scans.{Input}
use Rattle.rules.proofs.Range.{one_in_limits}
use Rattle.rules.proofs.Tables.{accepted}
use Rattle.book.specs.Log.{Log, none, ◌▸◌, count}
use Rattle.book.specs.Claim.{total}
use Rattle.book.specs.History.{Entry, table, single, other_table, other_single, result_of, input_of, takes_in, counts, record_after, history}

-- 1 to 10,000
pub period_limits : (period : ℕ) → period_ok period ≡ true → (1 ≤ period) × (period ≤ most_period)
unfolding period_ok
period_limits period e = both_le e

abbrev pub Timely : Log Input → Type 0
Timely none = Unit {0}
Timely (h ▸ x) = Timely h × (period_ok x.period ≡ true)

pub timely_total : (h : Log Input) → Timely h → total h ≤ most_period * count h
unfolding total count
timely_total none t = omega arith
timely_total (h ▸ x) t = omega (arith, timely_total h t.0, period_limits x.period t.1)

entered : (m : Motor) (e : Entry) → counts m e ≡ true → period_ok (input_of e).period ≡ true
unfolding counts takes_in result_of input_of
entered m (table before behind words period) h = (accepted _ words period (eqb-true _ _ h)).period
entered m (single word period) h = (one_in_limits m word period (eqb-true _ _ h)).time
entered m (other_table ms words period) h = absurd (false≢true h)
entered m (other_single n word period) h = absurd (false≢true h)

pub timely : (s : Settings) (es : Log Entry) → Timely (history s es)
unfolding history when◌then◌else◌
timely s none = tt
timely s (es ▸ e) = go (counts (record_after s es) e) refl (timely s es)
  where
    go : (z : Bool) → counts (record_after s es) e ≡ z → Timely (history s es) → Timely (when z then history s es ▸ input_of e else history s es)
    go true p t = (t, entered (record_after s es) e p)
    go false p t = t
