-- The running totals are the totals of the history, as far as 32-bit words go. Assumes nothing.
use Prim.Native.Nat.{ℕ, suc, ◌+◌, ◌≤◌, min, max}
use mathlib.Core.Path.{◌≡◌, refl, sym, ap, ◌∙◌}
use mathlib.Core.Bool.{Bool, true, false}
use mathlib.Core.List.{List, [], ◌∷◌}
use native.Mathlib.Omega.{arith}
use lib.Dec.{eqb}
use lib.ListN.{length}
use borrow.Author.Tests.{ne_eqb}
use Rattle.words.specs.Word.{when◌then◌else◌}
use Rattle.rules.specs.declared.Settings.{Settings}
use Rattle.rules.specs.declared.Status.{Status}
use Rattle.rules.specs.Record.{end_confirmed, end_displaced, end_overdue, idle}
use Rattle.rules.specs.Steps.{reading}
use Rattle.rules.specs.Scans.{Input}
use Rattle.book.specs.Log.{Log, none, ◌▸◌, count}
use Rattle.book.specs.History.{record_of}
use Rattle.book.specs.Book.{since, book_of}
use Rattle.book.specs.Claim.{total}
use Rattle.book.proofs.Book.{book_held}
use Rattle.totals.specs.Totals.{scans_with, last_ended, issued_of, confirmed_of, displaced_of, overdue_of, on_of, times_of, least, greatest, best_of, worst_of, totals_of}
use Rattle.totals.specs.Running.{capped, no_totals, counted_if, has_issued, on_after, best_after, totals_after, scan_totals, running_of, all_capped}
use Rattle.totals.proofs.Turns.{issued_seen}
use Rattle.totals.proofs.Laws.{balance, under_way, time_is, confirmed_times, issued_few, on_few, worst_few, best_worst}

-- ---- one more of a number that is capped

counted : (n : ℕ) (z : Bool) → counted_if (capped n) z ≡ capped (n + (when z then 1 else 0))
unfolding counted_if capped when◌then◌else◌
counted n true = omega arith
counted n false = ap capped (omega arith)

added : (n p : ℕ) (z : Bool) → (when z then capped (capped n + p) else capped n) ≡ capped (n + (when z then p else 0))
unfolding capped when◌then◌else◌
added n p true = omega arith
added n p false = ap capped (omega arith)

-- one more time, the best and the worst of which are kept

best_more : (time : ℕ) (ts : List ℕ) → best_after (capped (length ts)) (capped (least ts)) (capped time) ≡ capped (least (time ∷ ts))
unfolding best_after capped least when◌then◌else◌
best_more time [] = refl
best_more time (n ∷ ts) = rw (ne_eqb (min (suc (length ts)) 4294967295) 0 (λ e. omega arith)) (omega arith)

worst_more : (time : ℕ) (ts : List ℕ) → max (capped (greatest ts)) (capped time) ≡ capped (greatest (time ∷ ts))
unfolding capped greatest
worst_more time ts = omega arith

-- ---- one more scan

module _ (s : Settings) (h : Log Input) (x : Input) where
  -- the record has the time of a command that is confirmed
  time_kept : last_ended end_confirmed s (h ▸ x) ≡ true → (record_of s h).sum + x.period ≡ since (book_of s h).issue (h ▸ x)
  unfolding idle
  time_kept e = ap (λ (n : ℕ). n + x.period) ((book_held s h).sum_is (ne_eqb _ 0 (under_way s h x e).some)) ∙ sym (time_is s h x)

  best_kept : (when eqb (book_of s (h ▸ x)).status.end end_confirmed then best_after (capped (confirmed_of s h)) (capped (best_of s h)) (capped ((record_of s h).sum + x.period)) else capped (best_of s h))
      ≡ capped (best_of s (h ▸ x))
  unfolding best_of times_of last_ended when◌then◌else◌
  best_kept = go (last_ended end_confirmed s (h ▸ x)) refl
    where
      go : (z : Bool) → last_ended end_confirmed s (h ▸ x) ≡ z
          → (when z then best_after (capped (confirmed_of s h)) (capped (least (times_of s h))) (capped ((record_of s h).sum + x.period)) else capped (least (times_of s h)))
          ≡ capped (least (when z then since (book_of s h).issue (h ▸ x) ∷ times_of s h else times_of s h))
      go true e = rw (time_kept e, confirmed_times s h) (best_more _ (times_of s h))
      go false e = refl

  worst_kept : (when eqb (book_of s (h ▸ x)).status.end end_confirmed then max (capped (worst_of s h)) (capped ((record_of s h).sum + x.period)) else capped (worst_of s h))
      ≡ capped (worst_of s (h ▸ x))
  unfolding worst_of times_of last_ended when◌then◌else◌
  worst_kept = go (last_ended end_confirmed s (h ▸ x)) refl
    where
      go : (z : Bool) → last_ended end_confirmed s (h ▸ x) ≡ z
          → (when z then max (capped (greatest (times_of s h))) (capped ((record_of s h).sum + x.period)) else capped (greatest (times_of s h)))
          ≡ capped (greatest (when z then since (book_of s h).issue (h ▸ x) ∷ times_of s h else times_of s h))
      go true e = rw (time_kept e) (worst_more _ (times_of s h))
      go false e = refl

  -- each field
  ended_kept : (end : ℕ) → counted_if (capped (scans_with (last_ended end s) h)) (eqb (book_of s (h ▸ x)).status.end end) ≡ capped (scans_with (last_ended end s) (h ▸ x))
  unfolding scans_with last_ended
  ended_kept end = counted _ _

  issued_kept : counted_if (capped (issued_of s h)) (has_issued (book_of s h).status.command (book_of s (h ▸ x)).status) ≡ capped (issued_of s (h ▸ x))
  unfolding issued_of scans_with
  issued_kept = rw (← issued_seen s h x) (counted _ _)

  on_kept : on_after (capped (on_of s h)) (reading s x.word) x.period ≡ capped (on_of s (h ▸ x))
  unfolding on_of on_after
  on_kept = added _ _ _

  -- v is the status after the scan
  kept : (v : Status) → v ≡ (book_of s (h ▸ x)).status
      → totals_after (all_capped (totals_of s h)) (record_of s h) v (reading (record_of s h).settings x.word) x.period ≡ all_capped (totals_of s (h ▸ x))
  unfolding totals_after all_capped totals_of confirmed_of displaced_of overdue_of
  kept v e =
      let b = book_held s h in
      rw (e, b.settings_is, b.status_is, issued_kept, ended_kept end_confirmed, ended_kept end_displaced, ended_kept end_overdue, on_kept, best_kept, worst_kept) refl

none_is : (s : Settings) → no_totals ≡ all_capped (totals_of s none)
unfolding all_capped totals_of issued_of confirmed_of displaced_of overdue_of on_of best_of worst_of times_of least greatest scans_with capped
none_is s = refl

pub running_is : (s : Settings) (h : Log Input) → running_of s h ≡ all_capped (totals_of s h)
unfolding running_of scan_totals record_of
running_is s none = none_is s
running_is s (h ▸ x) = rw (running_is s h) (kept s h x _ (book_held s (h ▸ x)).status_is)

-- ---- a history so short that no number is capped

uncapped : (n : ℕ) → n ≤ 4294967295 → capped n ≡ n
unfolding capped
uncapped n h = omega arith

-- the counts of ends are no more than what was issued, and the times no more than the whole
pub running_exact : (s : Settings) (h : Log Input) → count h ≤ 4294967295 → total h ≤ 4294967295 → running_of s h ≡ totals_of s h
unfolding all_capped totals_of
running_exact s h few short =
    let b = balance s h in
    let i = issued_few s h in
    let w = worst_few s h in
    running_is s h
    ∙ rw (
      uncapped (issued_of s h) (omega arith),
      uncapped (confirmed_of s h) (omega arith),
      uncapped (displaced_of s h) (omega arith),
      uncapped (overdue_of s h) (omega arith),
      uncapped (on_of s h) (omega (arith, on_few s h)),
      uncapped (best_of s h) (omega (arith, best_worst s h)),
      uncapped (worst_of s h) (omega arith),
    ) refl
