-- What one scan does to the counts: it issues a command exactly if the running totals say so, and the command under way before it, if any, ends
-- or stays. Assumes nothing.
use Prim.Native.Nat.{ℕ, zero, suc, ◌+◌, ◌≤◌}
use mathlib.Core.Path.{◌≡◌, refl, sym, ◌∙◌}
use mathlib.Core.Logic.{◌≢◌, ◌⊎◌, inl, inr}
use mathlib.Core.Bool.{true, not, ◌&&◌, ◌||◌}
use native.Mathlib.Omega.{arith}
use native.Mathlib.Decide.{ℕ_discrete}
use lib.Dec.{eqb}
use borrow.Author.Tests.{eq-eqb, ne_eqb}
use Rattle.words.specs.Word.{when◌then◌else◌}
use Rattle.rules.specs.declared.Settings.{Settings}
use Rattle.rules.specs.Record.{no_command, no_end, end_confirmed, end_displaced, end_overdue, idle}
use Rattle.rules.specs.Scans.{Input}
use Rattle.book.specs.Log.{Log, ◌▸◌, count}
use Rattle.book.specs.Book.{book_of}
use Rattle.book.specs.Claim.{UnderWay, fate}
use Rattle.book.proofs.Book.{book_held}
use Rattle.book.proofs.Chain.{fate_cases}
use Rattle.book.proofs.Ends.{turn_of, idle_at, idle_end}
use Rattle.totals.specs.Totals.{last_issued}
use Rattle.totals.specs.Running.{has_issued}

-- The scan x after h, by its numbers: the command c under way before it, the command c', issued in scan i', after it, and the end e. n is its
-- number.
pub record Turned (c e c' i' n : ℕ) : Type 0 where
  pub idle_stays : c ≡ no_command → e ≡ no_end
  pub goes_on : c ≢ no_command → e ≡ no_end → c' ≢ no_command
  pub known : e ≤ 3
  -- a command under way after it was issued by it, unless one was under way before it and has not ended
  pub fresh : c ≡ no_command → c' ≢ no_command → i' ≡ n
  pub next : c ≢ no_command → e ≢ no_end → c' ≢ no_command → i' ≡ n
  pub old : c ≢ no_command → e ≡ no_end → i' ≢ n

fate_le : (s : Settings) (c i : ℕ) (h : Log Input) (x : Input) → fate s c i h x ≤ 3
fate_le s c i h x = go (fate_cases s c i h x)
  where
    go : (fate s c i h x ≡ no_end) ⊎ (fate s c i h x ≡ end_displaced) ⊎ (fate s c i h x ≡ end_confirmed) ⊎ (fate s c i h x ≡ end_overdue) → fate s c i h x ≤ 3
    go (inl f) = omega (arith, f)
    go (inr (inl f)) = omega (arith, f)
    go (inr (inr (inl f))) = omega (arith, f)
    go (inr (inr (inr f))) = omega (arith, f)

module _ (s : Settings) (h : Log Input) (x : Input) where
  pub turned : Turned (book_of s h).status.command (book_of s (h ▸ x)).status.end (book_of s (h ▸ x)).status.command (book_of s (h ▸ x)).issue (count (h ▸ x))
  unfolding count idle
  turned = go (ℕ_discrete (book_of s h).status.command no_command)
    where
      go : Dec ((book_of s h).status.command ≡ no_command)
          → Turned (book_of s h).status.command (book_of s (h ▸ x)).status.end (book_of s (h ▸ x)).status.command (book_of s (h ▸ x)).issue (count (h ▸ x))
      go (yes e) =
          let id : idle (book_of s h).status ≡ true = eq-eqb _ 0 e in
          let z = idle_end s h x id in
          record {
            idle_stays = λ p. z;
            goes_on = λ p. absurd (p e);
            known = omega (arith, z);
            fresh = λ p q. idle_at s h x id q;
            next = λ p. absurd (p e);
            old = λ p. absurd (p e);
          }
      go (no ne) =
          let u : UnderWay s (book_of s h).status.command (book_of s h).issue h = record { command = refl; issue = refl; some = ne } in
          let t = turn_of s h x _ _ u in
          record {
            idle_stays = λ p. absurd (ne p);
            goes_on = λ p q r. ne (sym (t.stay (sym t.end ∙ q)).0 ∙ r);
            known = omega (arith, t.end, fate_le s (book_of s h).status.command (book_of s h).issue h x);
            fresh = λ p. absurd (ne p);
            next = λ p q r. t.gone (λ z. q (t.end ∙ z)) r;
            old = λ p q r. omega (arith, (t.stay (sym t.end ∙ q)).1, r, (book_held s h).number);
          }

-- ---- whether it issued a command

-- by the numbers
issued_is : (c e c' i' n : ℕ) → Turned c e c' i' n → (not (eqb c' 0) && eqb i' n) ≡ (not (eqb c' 0) && (eqb c 0 || not (eqb e 0)))
issued_is c e c' i' n t = go (ℕ_discrete c' 0) (ℕ_discrete c 0) (ℕ_discrete e 0)
  where
    go : Dec (c' ≡ 0) → Dec (c ≡ 0) → Dec (e ≡ 0) → (not (eqb c' 0) && eqb i' n) ≡ (not (eqb c' 0) && (eqb c 0 || not (eqb e 0)))
    go (yes p) d f = rw (eq-eqb c' 0 p)
    go (no p) (yes q) f = rw (ne_eqb c' 0 p, eq-eqb c 0 q, eq-eqb i' n (t.fresh q p))
    go (no p) (no q) (yes r) = rw (ne_eqb c' 0 p, ne_eqb c 0 q, eq-eqb e 0 r, ne_eqb i' n (t.old q r))
    go (no p) (no q) (no r) = rw (ne_eqb c' 0 p, ne_eqb c 0 q, ne_eqb e 0 r, eq-eqb i' n (t.next q r p))

pub issued_seen : (s : Settings) (h : Log Input) (x : Input) → last_issued s (h ▸ x) ≡ has_issued (book_of s h).status.command (book_of s (h ▸ x)).status
unfolding last_issued has_issued idle
issued_seen s h x = issued_is _ _ _ _ _ (turned s h x)

-- ---- the balance of one scan: what it issues, and what was under way, has ended or is under way

pub record Even (c e c' : ℕ) : Type 0 where
  pub is : (when not (eqb c' 0) && (eqb c 0 || not (eqb e 0)) then 1 else 0) + (when eqb c 0 then 0 else 1)
      ≡ (when eqb e 1 then 1 else 0) + (when eqb e 2 then 1 else 0) + (when eqb e 3 then 1 else 0) + (when eqb c' 0 then 0 else 1)

even : (c e c' i' n : ℕ) → Turned c e c' i' n → Even c e c'
unfolding when◌then◌else◌
even c e c' i' n t = go e t.known t (ℕ_discrete c' 0) (ℕ_discrete c 0)
  where
    go : (e : ℕ) → e ≤ 3 → Turned c e c' i' n → Dec (c' ≡ 0) → Dec (c ≡ 0) → Even c e c'
    go zero l t (yes p) (yes q) = record { is = rw (eq-eqb c' 0 p, eq-eqb c 0 q) }
    go zero l t (yes p) (no q) = absurd (t.goes_on q refl p)
    go zero l t (no p) (yes q) = record { is = rw (ne_eqb c' 0 p, eq-eqb c 0 q) }
    go zero l t (no p) (no q) = record { is = rw (ne_eqb c' 0 p, ne_eqb c 0 q) }
    go (suc e) l t d (yes q) = absurd (omega (arith, t.idle_stays q))
    go (suc zero) l t (yes p) (no q) = record { is = rw (eq-eqb c' 0 p, ne_eqb c 0 q) }
    go (suc zero) l t (no p) (no q) = record { is = rw (ne_eqb c' 0 p, ne_eqb c 0 q) }
    go (suc (suc zero)) l t (yes p) (no q) = record { is = rw (eq-eqb c' 0 p, ne_eqb c 0 q) }
    go (suc (suc zero)) l t (no p) (no q) = record { is = rw (ne_eqb c' 0 p, ne_eqb c 0 q) }
    go (suc (suc (suc zero))) l t (yes p) (no q) = record { is = rw (eq-eqb c' 0 p, ne_eqb c 0 q) }
    go (suc (suc (suc zero))) l t (no p) (no q) = record { is = rw (ne_eqb c' 0 p, ne_eqb c 0 q) }
    go (suc (suc (suc (suc e)))) l t d (no q) = absurd (omega arith)

pub scan_even : (s : Settings) (h : Log Input) (x : Input) → Even (book_of s h).status.command (book_of s (h ▸ x)).status.end (book_of s (h ▸ x)).status.command
scan_even s h x = even _ _ _ _ _ (turned s h x)
