-- What the claim's book, and its time since the issue, leave no room for: a command that ends for no cause in the scan after its issue, an
-- end overdue before the periods come to W, and a time sum other than theirs. Of records, not of blocks. Assumes nothing.
use Prim.Native.Nat.{ℕ, ◌≤◌, ◌<◌}
use mathlib.Core.Path.{◌≡◌, refl, sym, ◌∙◌}
use mathlib.Core.Logic.{◌≢◌}
use mathlib.Core.Bool.{false}
use native.Mathlib.Omega.{arith}
use borrow.Author.Tests.{leb-true, lt-leb}
use Rattle.words.specs.Word.{when◌then◌else◌}
use Rattle.rules.specs.declared.Settings.{Settings}
use Rattle.rules.specs.Record.{end_overdue, idle}
use Rattle.rules.specs.Steps.{reading, confirms, displaces}
use Rattle.rules.specs.Scans.{Input}
use Rattle.book.specs.Log.{Log, ◌▸◌, count}
use Rattle.book.specs.History.{Entry, record_after, history}
use Rattle.book.specs.Book.{since, is_up, book_of}
use Rattle.book.specs.Claim.{UnderWay, Issued, chosen_in, fate, MotorClaim}
use Rattle.book.proofs.Book.{none_since, one_since}
use Rattle.book.proofs.Ends.{three, goes_on, ends_of}

-- A command issued by the last scan of h is under way after the next scan, if that neither confirms nor displaces it and takes less than W.
pub not_ended_at_once : (s : Settings) (c : ℕ) (h : Log Input) (x : Input) → Issued s c h → confirms (reading s x.word) c ≡ false
    → displaces (chosen_in s h x) c ≡ false → x.period < s.w → UnderWay s c (count h) (h ▸ x)
unfolding fate is_up when◌then◌else◌
not_ended_at_once s c h x u no_sign no-order short =
    let z = none_since (count h) h (omega arith) in
    let t = one_since (count h) h x (omega arith) in
    goes_on s h x c (count h) u (rw (no_sign, lt-leb s.w (since (count h) (h ▸ x)) (omega arith), no-order) refl)

-- An end that says overdue comes when the periods since the issue add up to at least W.
pub not_overdue_early : (s : Settings) (c i : ℕ) (h : Log Input) (x : Input) → UnderWay s c i h
    → (book_of s (h ▸ x)).status.end ≡ end_overdue → s.w ≤ since i (h ▸ x)
unfolding fate is_up when◌then◌else◌
not_overdue_early s c i h x u e = leb-true _ _ (three (confirms (reading s x.word) c) _ (displaces (chosen_in s h x) c) (sym (ends_of s h x c i u).end ∙ e)).1

-- The sum of a command under way is none but the time since its issue.
pub not_invented : (s : Settings) (es : Log Entry) (n : ℕ) → MotorClaim s es → idle (record_after s es).status ≡ false
    → n ≢ since (book_of s (history s es)).issue (history s es) → (record_after s es).sum ≢ n
not_invented s es n d live ne e = ne (sym e ∙ d.time_is live)
