-- The laws of the totals, over any history: the balance, the order of best and worst, how large they are. Assumes nothing.
use Prim.Native.Nat.{ℕ, suc, ◌+◌, ◌-◌, ◌≤◌, ◌<◌, max}
use mathlib.Core.Path.{◌≡◌, refl}
use mathlib.Core.Logic.{◌↔◌}
use mathlib.Core.Bool.{Bool, true, false}
use mathlib.Core.List.{List, [], ◌∷◌}
use native.Mathlib.Omega.{arith}
use native.Mathlib.Decide.{dec_lt}
use lib.ListN.{length}
use borrow.Author.Tests.{eqb-true}
use Rattle.words.specs.Word.{when◌then◌else◌}
use Rattle.words.proofs.Laws.{either}
use Rattle.rules.specs.declared.Settings.{Settings}
use Rattle.rules.specs.Record.{end_confirmed, idle, fresh_status}
use Rattle.rules.specs.Scans.{Input}
use Rattle.book.specs.Log.{Log, none, ◌▸◌, count}
use Rattle.book.specs.Book.{since, book_of}
use Rattle.book.specs.Claim.{UnderWay, total, longest}
use Rattle.book.proofs.Book.{book_held, none_since, one_since}
use Rattle.book.proofs.Ends.{back}
use Rattle.book.proofs.Chain.{in_time}
use Rattle.book.proofs.Periods.{Timely, period_limits}
use Rattle.totals.specs.Totals.{scans_with, last_issued, last_ended, issued_of, confirmed_of, displaced_of, overdue_of, under_way_in, under_way_of, on_of, times_of, least, greatest, best_of, worst_of}
use Rattle.totals.specs.Running.{has_issued}
use Rattle.totals.proofs.Turns.{turned, issued_seen, Even, scan_even}

-- ---- the balance

one_more : (s : Settings) (h : Log Input) (x : Input) → Even (book_of s h).status.command (book_of s (h ▸ x)).status.end (book_of s (h ▸ x)).status.command
    → issued_of s h ≡ confirmed_of s h + displaced_of s h + overdue_of s h + under_way_of s h
    → issued_of s h + (when has_issued (book_of s h).status.command (book_of s (h ▸ x)).status then 1 else 0)
    ≡ confirmed_of s h + (when last_ended 1 s (h ▸ x) then 1 else 0) + (displaced_of s h + (when last_ended 2 s (h ▸ x) then 1 else 0)) + (overdue_of s h + (when last_ended 3 s (h ▸ x) then 1 else 0)) + under_way_of s (h ▸ x)
unfolding has_issued idle last_ended under_way_in under_way_of
one_more s h x e ih = omega (arith, e.is, ih)

none_yet : (s : Settings) → under_way_of s none ≡ 0
unfolding under_way_in under_way_of book_of fresh_status idle when◌then◌else◌
none_yet s = refl

pub balance : (s : Settings) (h : Log Input) → issued_of s h ≡ confirmed_of s h + displaced_of s h + overdue_of s h + under_way_of s h
unfolding issued_of confirmed_of displaced_of overdue_of scans_with
balance s none = omega (arith, none_yet s)
balance s (h ▸ x) = rw (issued_seen s h x) (one_more s h x (scan_even s h x) (balance s h))

-- ---- a confirmation, and the time that it took

-- only a command that is under way is confirmed
pub under_way : (s : Settings) (h : Log Input) (x : Input) → last_ended end_confirmed s (h ▸ x) ≡ true
    → UnderWay s (book_of s h).status.command (book_of s h).issue h
unfolding last_ended
under_way s h x e =
    record { command = refl; issue = refl; some = λ z. omega (arith, (turned s h x).idle_stays z, eqb-true (book_of s (h ▸ x)).status.end end_confirmed e) }

-- a command under way has waited for less than W, or was issued by the last scan
waits : (s : Settings) (h : Log Input) (c i : ℕ) → UnderWay s c i h → since i h ≤ s.w - 1
unfolding since count
waits s none c i u = omega arith
waits s (h ▸ x) c i u = go (dec_lt (count h) i)
  where
    go : Dec (count h < i) → since i (h ▸ x) ≤ s.w - 1
    go (no l) = let f = (back s h x c i (omega arith) u).1 in omega (arith, in_time s c i h x (omega arith) (omega arith))
    go (yes l) = omega (arith, none_since i (h ▸ x) (omega arith))

-- the time to a confirmation
pub time_is : (s : Settings) (h : Log Input) (x : Input) → since (book_of s h).issue (h ▸ x) ≡ since (book_of s h).issue h + x.period
time_is s h x = one_since (book_of s h).issue h x (book_held s h).number

-- ---- numbers that all are at most n, or at least n

abbrev AtMost : ℕ → List ℕ → Type 0
AtMost n [] = Unit {0}
AtMost n (m ∷ ms) = (m ≤ n) × AtMost n ms

abbrev AtLeast : ℕ → List ℕ → Type 0
AtLeast n [] = Unit {0}
AtLeast n (m ∷ ms) = (n ≤ m) × AtLeast n ms

at_most : (n k : ℕ) (ms : List ℕ) → n ≤ k → AtMost n ms → AtMost k ms
at_most n k [] l a = tt
at_most n k (m ∷ ms) l a = (omega (arith, a.0), at_most n k ms l a.1)

greatest_le : (n : ℕ) (ms : List ℕ) → AtMost n ms → greatest ms ≤ n
unfolding greatest
greatest_le n [] a = omega arith
greatest_le n (m ∷ ms) a = omega (arith, a.0, greatest_le n ms a.1)

least_ge : (n m : ℕ) (ms : List ℕ) → AtLeast n (m ∷ ms) → n ≤ least (m ∷ ms)
unfolding least
least_ge n m [] a = a.0
least_ge n m (k ∷ ms) a = omega (arith, a.0, least_ge n k ms a.1)

least_head : (m : ℕ) (ms : List ℕ) → least (m ∷ ms) ≤ m
unfolding least
least_head m [] = omega arith
least_head m (k ∷ ms) = omega arith

least_le_greatest : (ms : List ℕ) → least ms ≤ greatest ms
unfolding greatest least
least_le_greatest [] = omega arith
least_le_greatest (m ∷ ms) = omega (arith, least_head m ms)

-- ---- the times

module _ (P : List ℕ → Type 0) where
  -- what holds of no times, and of one time more wherever a command is confirmed
  times_by : (s : Settings) (h : Log Input) (x : Input) → P (times_of s h)
      → (last_ended end_confirmed s (h ▸ x) ≡ true → P (since (book_of s h).issue (h ▸ x) ∷ times_of s h)) → P (times_of s (h ▸ x))
  unfolding times_of when◌then◌else◌
  times_by s h x a f = go (last_ended end_confirmed s (h ▸ x)) f
    where
      go : (z : Bool) → (z ≡ true → P (since (book_of s h).issue (h ▸ x) ∷ times_of s h)) → P (when z then since (book_of s h).issue (h ▸ x) ∷ times_of s h else times_of s h)
      go true f = f refl
      go false f = a

-- a command is confirmed while its time is not up, or in the scan with which it is
times_soon : (s : Settings) (h : Log Input) → AtMost (s.w - 1 + longest h) (times_of s h)
unfolding times_of longest
times_soon s none = tt
times_soon s (h ▸ x) =
    let a = at_most (s.w - 1 + longest h) (s.w - 1 + max (longest h) x.period) (times_of s h) (omega arith) (times_soon s h) in
    times_by (AtMost (s.w - 1 + max (longest h) x.period)) s h x a (λ e. (omega (arith, time_is s h x, waits s h _ _ (under_way s h x e)), a))

pub worst_soon : (s : Settings) (h : Log Input) → worst_of s h ≤ s.w - 1 + longest h
unfolding worst_of
worst_soon s h = greatest_le _ (times_of s h) (times_soon s h)

pub best_worst : (s : Settings) (h : Log Input) → best_of s h ≤ worst_of s h
unfolding best_of worst_of
best_worst s h = least_le_greatest (times_of s h)

-- ---- 0 says that there was none

times_positive : (s : Settings) (h : Log Input) → Timely h → AtLeast 1 (times_of s h)
unfolding times_of
times_positive s none t = tt
times_positive s (h ▸ x) t =
    let a = times_positive s h t.0 in
    times_by (AtLeast 1) s h x a (λ e. (omega (arith, time_is s h x, (period_limits x.period t.1).0), a))

-- there are as many times as confirmations
pub confirmed_times : (s : Settings) (h : Log Input) → confirmed_of s h ≡ length (times_of s h)
unfolding confirmed_of scans_with times_of when◌then◌else◌
confirmed_times s none = refl
confirmed_times s (h ▸ x) = go (last_ended end_confirmed s (h ▸ x)) (confirmed_times s h)
  where
    go : (z : Bool) → scans_with (last_ended end_confirmed s) h ≡ length (times_of s h)
        → scans_with (last_ended end_confirmed s) h + (when z then 1 else 0) ≡ length (when z then since (book_of s h).issue (h ▸ x) ∷ times_of s h else times_of s h)
    go true e = omega (arith, e)
    go false e = omega (arith, e)

none_left : (ms : List ℕ) → AtLeast 1 ms → (least ms ≡ 0 ↔ length ms ≡ 0) × (greatest ms ≡ 0 ↔ length ms ≡ 0)
unfolding least greatest
none_left [] a = ((λ e. refl, λ e. refl), (λ e. refl, λ e. refl))
none_left (m ∷ ms) a = (
  (λ e. absurd (omega (arith, e, least_ge 1 m ms a)), λ e. absurd (omega arith)),
  (λ e. absurd (omega (arith, e, a.0)), λ e. absurd (omega arith)),
)

module _ (s : Settings) (h : Log Input) (t : Timely h) where
  pub best_none : best_of s h ≡ 0 ↔ confirmed_of s h ≡ 0
  unfolding best_of
  best_none = rw (confirmed_times s h) (none_left (times_of s h) (times_positive s h t)).0

  pub worst_none : worst_of s h ≡ 0 ↔ confirmed_of s h ≡ 0
  unfolding worst_of
  worst_none = rw (confirmed_times s h) (none_left (times_of s h) (times_positive s h t)).1

-- ---- how large they can be

scans_few : (test : Log Input → Bool) (h : Log Input) → scans_with test h ≤ count h
unfolding scans_with count
scans_few test none = omega arith
scans_few test (h ▸ x) =
    either (λ (n : ℕ). scans_with test h + n ≤ suc (count h)) (test (h ▸ x)) (omega (arith, scans_few test h)) (omega (arith, scans_few test h))

pub issued_few : (s : Settings) (h : Log Input) → issued_of s h ≤ count h
unfolding issued_of
issued_few s h = scans_few (last_issued s) h

pub on_few : (s : Settings) (h : Log Input) → on_of s h ≤ total h
unfolding on_of total
on_few s none = omega arith
on_few s (h ▸ x) = either (λ (n : ℕ). on_of s h + n ≤ total h + x.period) _ (omega (arith, on_few s h)) (omega (arith, on_few s h))

since_few : (i : ℕ) (h : Log Input) → since i h ≤ total h
unfolding since total
since_few i none = omega arith
since_few i (h ▸ x) = either (λ (n : ℕ). since i h + n ≤ total h + x.period) _ (omega (arith, since_few i h)) (omega (arith, since_few i h))

times_few : (s : Settings) (h : Log Input) → AtMost (total h) (times_of s h)
unfolding times_of total
times_few s none = tt
times_few s (h ▸ x) =
    let a = at_most (total h) (total h + x.period) (times_of s h) (omega arith) (times_few s h) in
    times_by (AtMost (total h + x.period)) s h x a (λ e. (omega (arith, time_is s h x, since_few (book_of s h).issue h), a))

pub worst_few : (s : Settings) (h : Log Input) → worst_of s h ≤ total h
unfolding worst_of
worst_few s h = greatest_le _ (times_of s h) (times_few s h)
