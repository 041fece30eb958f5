-- Chains are short, and over in time. Assumes nothing.
use Prim.Native.Nat.{ℕ, suc, ◌+◌, ◌*◌, ◌≤◌, ◌<◌, pred}
use mathlib.Core.Path.{◌≡◌, refl, sym, ap}
use mathlib.Core.Logic.{◌≢◌, ◌⊎◌, inl, inr}
use mathlib.Core.Bool.{Bool, true, false}
use native.Mathlib.Nat.{mul-le-mul_right}
use native.Mathlib.Omega.{arith}
use borrow.Author.Tests.{leb-false}
use Rattle.words.specs.Word.{when◌then◌else◌}
use Rattle.rules.specs.declared.Settings.{Settings}
use Rattle.rules.specs.Record.{no_end, end_confirmed, end_displaced, end_overdue}
use Rattle.rules.specs.Steps.{reading, confirms, displaces}
use Rattle.rules.specs.Scans.{Input}
use Rattle.book.specs.Log.{Log, none, ◌▸◌, ◌⧺◌, count}
use Rattle.book.specs.Book.{since, is_up}
use Rattle.book.specs.Claim.{UnderWay, Issued, chosen_in, fate, Ends, Chain, first, waits, displaced, total, longest, most_in_chain, bound, Over}
use Rattle.book.proofs.Book.{book_held, none_since, one_since}
use Rattle.book.proofs.Ends.{command_lt, turn_of, goes_on, ends_of}

-- ---- a command's fate

-- it is one of four, and where it is neither confirmed nor overdue the time is not up
fates : (x up d : Bool) (f : ℕ) → (when x then end_confirmed else when up then end_overdue else when d then end_displaced else no_end) ≡ f
    → (f ≡ no_end) ⊎ (f ≡ end_displaced) ⊎ (f ≡ end_confirmed) ⊎ (f ≡ end_overdue)
unfolding when◌then◌else◌
fates true up d f e = inr (inr (inl (sym e)))
fates false true d f e = inr (inr (inr (sym e)))
fates false false true f e = inr (inl (sym e))
fates false false false f e = inl (sym e)

pub fate_cases : (s : Settings) (c i : ℕ) (h : Log Input) (y : Input)
    → (fate s c i h y ≡ no_end) ⊎ (fate s c i h y ≡ end_displaced) ⊎ (fate s c i h y ≡ end_confirmed) ⊎ (fate s c i h y ≡ end_overdue)
unfolding fate
fate_cases s c i h y = fates (confirms (reading s y.word) c) (is_up s i (h ▸ y)) (displaces (chosen_in s h y) c) _ refl

not_up : (x up d : Bool) (f : ℕ) → (when x then end_confirmed else when up then end_overdue else when d then end_displaced else no_end) ≡ f
    → f ≢ end_confirmed → f ≢ end_overdue → up ≡ false
unfolding when◌then◌else◌
not_up true up d f e a b = absurd (a (sym e))
not_up false true d f e a b = absurd (b (sym e))
not_up false false d f e a b = refl

pub in_time : (s : Settings) (c i : ℕ) (h : Log Input) (y : Input) → fate s c i h y ≢ end_confirmed → fate s c i h y ≢ end_overdue
    → since i (h ▸ y) < s.w
unfolding fate is_up
in_time s c i h y a b = leb-false s.w (since i (h ▸ y)) (not_up (confirms (reading s y.word) c) _ _ _ refl a b)

-- ---- what holds along a chain

-- n commands have taken less than n times W: each but the last was displaced before its time was up, and the last is not overdue yet.
-- Each has a smaller number than the one before it, so n and the last one's number add up to at most 8.
record Kept (s : Settings) (h k : Log Input) (c i n : ℕ) : Type 0 where
  under : UnderWay s c i (h ⧺ k)
  size : n + c ≤ 8
  spent : total k + s.w ≤ n * s.w + since i (h ⧺ k)
  short : since i (h ⧺ k) ≤ pred s.w
  waited : k ≢ none → 1 ≤ s.w

issue_le : (s : Settings) (c i : ℕ) (h : Log Input) → UnderWay s c i h → i ≤ count h
issue_le s c i h u = omega (arith, (book_held s h).number, u.issue)

under_lt : (s : Settings) (c i : ℕ) (h : Log Input) → UnderWay s c i h → c < 8
under_lt s c i h u = omega (arith, command_lt s h, u.command)

kept_first : (s : Settings) (c : ℕ) (h : Log Input) → Issued s c h → Kept s h none c (count h) 1
unfolding total ◌⧺◌
kept_first s c h u =
    let z : since (count h) h ≡ 0 = none_since (count h) h (omega arith) in
    record {
      under = u;
      size = omega (arith, under_lt s c (count h) h u);
      spent = omega arith;
      short = omega arith;
      waited = λ x. absurd (x refl);
    }

kept_waits : (s : Settings) (h k : Log Input) (c i n : ℕ) (y : Input) → Kept s h k c i n → fate s c i (h ⧺ k) y ≡ no_end
    → Kept s h (k ▸ y) c i n
unfolding total ◌⧺◌
kept_waits s h k c i n y q f =
    let t : since i ((h ⧺ k) ▸ y) < s.w = in_time s c i (h ⧺ k) y (omega arith) (omega arith) in
    let p : since i ((h ⧺ k) ▸ y) ≡ since i (h ⧺ k) + y.period = one_since i (h ⧺ k) y (issue_le s c i (h ⧺ k) q.under) in
    record {
      under = goes_on s (h ⧺ k) y c i q.under f;
      size = q.size;
      spent = omega (arith, q.spent);
      short = omega arith;
      waited = λ x. omega arith;
    }

kept_displaced : (s : Settings) (h k : Log Input) (c i n : ℕ) (y : Input) → Kept s h k c i n → fate s c i (h ⧺ k) y ≡ end_displaced
    → Kept s h (k ▸ y) (chosen_in s (h ⧺ k) y) (count (h ⧺ (k ▸ y))) (suc n)
unfolding total ◌⧺◌
kept_displaced s h k c i n y q f =
    let t : since i ((h ⧺ k) ▸ y) < s.w = in_time s c i (h ⧺ k) y (omega arith) (omega arith) in
    let p : since i ((h ⧺ k) ▸ y) ≡ since i (h ⧺ k) + y.period = one_since i (h ⧺ k) y (issue_le s c i (h ⧺ k) q.under) in
    let z : since (count ((h ⧺ k) ▸ y)) ((h ⧺ k) ▸ y) ≡ 0 = none_since (count ((h ⧺ k) ▸ y)) ((h ⧺ k) ▸ y) (omega arith) in
    let r = (turn_of s (h ⧺ k) y c i q.under).next f in
    record {
      under = (ends_of s (h ⧺ k) y c i q.under).next f;
      size = omega (arith, q.size, r.3);
      spent = omega (arith, q.spent);
      short = omega arith;
      waited = λ x. omega arith;
    }

kept : (s : Settings) (c₀ : ℕ) (h k : Log Input) (c i n : ℕ) → Chain s c₀ h k c i n → Kept s h k c i n
kept s c₀ h k c i n (first u) = kept_first s c₀ h u
kept s c₀ h k c i n (waits {k = k₁} {c = c₁} {i = i₁} {n = n₁} y ch f) = kept_waits s h k₁ c₁ i₁ n₁ y (kept s c₀ h k₁ c₁ i₁ n₁ ch) f
kept s c₀ h k c i n (displaced {k = k₁} {c = c₁} {i = i₁} {n = n₁} y ch f) =
    kept_displaced s h k₁ c₁ i₁ n₁ y (kept s c₀ h k₁ c₁ i₁ n₁ ch) f

pub chain_is : (s : Settings) (c₀ : ℕ) (h k : Log Input) (c i n : ℕ) → Chain s c₀ h k c i n → (n ≤ most_in_chain) × UnderWay s c i (h ⧺ k)
chain_is s c₀ h k c i n ch =
    let q = kept s c₀ h k c i n ch in
    (omega (arith, q.size, q.under.some), q.under)

-- ---- where a chain stands after the scans k: still under way, or over

record Alive (s : Settings) (c₀ : ℕ) (h k : Log Input) : Type 0 where
  last : ℕ
  issue : ℕ
  length : ℕ
  chain : Chain s c₀ h k last issue length

record Gone (s : Settings) (c₀ : ℕ) (h k : Log Input) : Type 0 where
  early : Log Input
  at : Input
  later : Log Input
  split : k ≡ ((early ▸ at) ⧺ later)
  alive : Alive s c₀ h early
  how : (fate s alive.last alive.issue (h ⧺ early) at ≡ end_confirmed) ⊎ (fate s alive.last alive.issue (h ⧺ early) at ≡ end_overdue)
  ends : Ends s alive.last alive.issue (fate s alive.last alive.issue (h ⧺ early) at) (h ⧺ early) at

trace_on : (s : Settings) (c₀ : ℕ) (h k : Log Input) (y : Input) → Alive s c₀ h k ⊎ Gone s c₀ h k → Alive s c₀ h (k ▸ y) ⊎ Gone s c₀ h (k ▸ y)
unfolding ◌⧺◌
trace_on s c₀ h k y (inr g) =
    inr (record { early = g.early; at = g.at; later = g.later ▸ y; split = ap (λ (x : Log Input). x ▸ y) g.split; alive = g.alive; how = g.how; ends = g.ends })
trace_on s c₀ h k y (inl a) = go (fate_cases s a.last a.issue (h ⧺ k) y)
  where
    ends : Ends s a.last a.issue (fate s a.last a.issue (h ⧺ k) y) (h ⧺ k) y
    ends = ends_of s (h ⧺ k) y a.last a.issue (kept s c₀ h k a.last a.issue a.length a.chain).under

    go : (fate s a.last a.issue (h ⧺ k) y ≡ no_end) ⊎ (fate s a.last a.issue (h ⧺ k) y ≡ end_displaced)
        ⊎ (fate s a.last a.issue (h ⧺ k) y ≡ end_confirmed) ⊎ (fate s a.last a.issue (h ⧺ k) y ≡ end_overdue)
        → Alive s c₀ h (k ▸ y) ⊎ Gone s c₀ h (k ▸ y)
    go (inl f) = inl (record { last = a.last; issue = a.issue; length = a.length; chain = waits y a.chain f })
    go (inr (inl f)) = inl (record { last = chosen_in s (h ⧺ k) y; issue = count (h ⧺ (k ▸ y)); length = suc a.length; chain = displaced y a.chain f })
    go (inr (inr (inl f))) = inr (record { early = k; at = y; later = none; split = refl; alive = a; how = inl f; ends = ends })
    go (inr (inr (inr f))) = inr (record { early = k; at = y; later = none; split = refl; alive = a; how = inr f; ends = ends })

trace : (s : Settings) (c₀ : ℕ) (h : Log Input) → Issued s c₀ h → (k : Log Input) → Alive s c₀ h k ⊎ Gone s c₀ h k
trace s c₀ h u none = inl (record { last = c₀; issue = count h; length = 1; chain = first u })
trace s c₀ h u (k ▸ y) = trace_on s c₀ h k y (trace s c₀ h u k)

longest_le : (a b : Log Input) → longest a ≤ longest (a ⧺ b)
unfolding longest ◌⧺◌
longest_le a none = omega arith
longest_le a (b ▸ y) = omega (arith, longest_le a b)

pub over_is : (s : Settings) (c₀ : ℕ) (h k : Log Input) → Issued s c₀ h → k ≢ none → bound s k ≤ total k → Over s c₀ h k (bound s k)
unfolding longest total
over_is s c₀ h k u ne much = go (trace s c₀ h u k)
  where
    go : Alive s c₀ h k ⊎ Gone s c₀ h k → Over s c₀ h k (bound s k)
    go (inl a) =
        let q = kept s c₀ h k a.last a.issue a.length a.chain in
        let n : a.length ≤ most_in_chain = (chain_is s c₀ h k a.last a.issue a.length a.chain).0 in
        absurd (omega (arith, q.spent, q.short, q.waited ne, mul-le-mul_right s.w n))
    go (inr g) =
        let a = g.alive in
        let l : longest (g.early ▸ g.at) ≤ longest k = rw g.split (longest_le (g.early ▸ g.at) g.later) in
        let q = kept s c₀ h g.early a.last a.issue a.length a.chain in
        let n : a.length ≤ most_in_chain = (chain_is s c₀ h g.early a.last a.issue a.length a.chain).0 in
        record {
          early = g.early;
          at = g.at;
          later = g.later;
          split = g.split;
          last = a.last;
          issue = a.issue;
          length = a.length;
          chain = a.chain;
          how = g.how;
          ends = g.ends;
          soon = omega (arith, q.spent, q.short, mul-le-mul_right s.w n);
        }
