-- The claim on a motor, for all settings and all lists of entries. Assumes nothing.
use mathlib.Core.Path.{◌≡◌, ap, ◌∙◌}
use mathlib.Core.Bool.{false, ◌&&◌}
use Rattle.rules.specs.declared.Settings.{Settings}
use Rattle.rules.specs.declared.Motor.{Motor}
use Rattle.rules.specs.Record.{flag, idle}
use Rattle.rules.specs.Steps.{reading, both_closed, step}
use Rattle.rules.specs.Scans.{Input}
use Rattle.rules.proofs.Flags.{closed_flag}
use Rattle.book.specs.Log.{Log, ◌▸◌}
use Rattle.book.specs.History.{Entry, record_after, history, record_of}
use Rattle.book.specs.Book.{since, book_of}
use Rattle.book.specs.Claim.{MotorClaim}
use Rattle.book.proofs.Record.{record_is, taken_is, refused_is, independent_is}
use Rattle.book.proofs.Book.{book_held}
use Rattle.book.proofs.IdleSums.{idle_sums_are}
use Rattle.book.proofs.Ends.{stays_is, ends_is}
use Rattle.book.proofs.Chain.{chain_is, over_is}

time_is : (s : Settings) (es : Log Entry) → idle (record_after s es).status ≡ false
    → (record_after s es).sum ≡ since (book_of s (history s es)).issue (history s es)
time_is s es i =
    let b = book_held s (history s es) in
    ap (λ (m : Motor). m.sum) (record_is s es) ∙ b.sum_is (rw (record_is s es, b.status_is) at i)

closed_flag_is : (s : Settings) (es : Log Entry) (h : Log Input) (x : Input) → history s es ≡ (h ▸ x)
    → flag (record_after s es).status 14 ≡ (flag (record_after s es).status 1 && both_closed (reading s x.word))
unfolding record_of
closed_flag_is s es h x p =
    let e : record_after s es ≡ step (record_of s h) x.word x.period = record_is s es ∙ ap (record_of s) p in
    rw e (rw (book_held s h).settings_is at (closed_flag (record_of s h) x.word x.period))

pub claimed : (s : Settings) (es : Log Entry) → MotorClaim s es
claimed s es =
    record {
      record_is = record_is s es;
      book_is = ap (λ (m : Motor). m.status) (record_is s es) ∙ (book_held s (history s es)).status_is;
      time_is = time_is s es;
      idle_sums = idle_sums_are s es;
      closed_flag = closed_flag_is s es;
      taken = taken_is s es;
      refused = refused_is s es;
      stays = λ h k c p. stays_is s h k c;
      ends = λ h k y c p. ends_is s h k y c;
      chain = λ h k c₀ c i n p. chain_is s c₀ h k c i n;
      over = λ h k c₀ p. over_is s c₀ h k;
      independent = independent_is s es;
    }
