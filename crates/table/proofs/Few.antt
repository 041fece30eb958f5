-- A table's scan tests no more records than there are records and words, and steps no more: none of a table that is refused for its
-- counts, and none of one that is refused. Assumes nothing.
use Prim.Native.Nat.{ℕ, ◌≤◌}
use mathlib.Core.Path.{◌≡◌, refl}
use mathlib.Core.Bool.{Bool, true, false}
use mathlib.Core.List.{List}
use native.Mathlib.Omega.{arith}
use lib.Dec.{eqb, lit<}
use lib.ListN.{length}
use borrow.Author.Tests.{eq-eqb, eqb-true, not-false}
use Rattle.words.specs.Word.{when◌then◌else◌}
use Rattle.rules.specs.declared.Motor.{Motor}
use Rattle.rules.specs.Refusals.{misfit, table_refusal}
use Rattle.rules.proofs.Tables.{or_false, if_zero}

pub few_tested : (n k : ℕ) → ((when misfit n k then 0 else n) ≤ n) × ((when misfit n k then 0 else n) ≤ k)
unfolding misfit when◌then◌else◌
few_tested n k = go (misfit n k) refl
  where
    go : (z : Bool) → misfit n k ≡ z → ((when z then 0 else n) ≤ n) × ((when z then 0 else n) ≤ k)
    go true e = (omega arith, omega arith)
    go false e = (omega arith, omega (arith, eqb-true n k (not-false (eqb n k) (or_false _ _ e).0)))

-- a table that is accepted is no misfit
fits : (ms : List Motor) (ws : List ℕ) (p : ℕ) → table_refusal ms ws p ≡ 0 → misfit (length ms) (length ws) ≡ false
unfolding table_refusal
fits ms ws p h = (if_zero (misfit (length ms) (length ws)) 1 _ (lit< tt) h).0

-- no more are stepped than there are records, nor than there are words
pub few_stepped : (ms : List Motor) (ws : List ℕ) (p : ℕ)
    → ((when eqb (table_refusal ms ws p) 0 then length ms else 0) ≤ length ms) × ((when eqb (table_refusal ms ws p) 0 then length ms else 0) ≤ length ws)
unfolding when◌then◌else◌
few_stepped ms ws p = go (eqb (table_refusal ms ws p) 0) refl
  where
    go : (z : Bool) → eqb (table_refusal ms ws p) 0 ≡ z → ((when z then length ms else 0) ≤ length ms) × ((when z then length ms else 0) ≤ length ws)
    go true e = rw (fits ms ws p (eqb-true _ 0 e)) at (few_tested (length ms) (length ws))
    go false e = (omega arith, omega arith)

-- so there is a word for each record that is stepped
pub words_enough : (ms : List Motor) (ws : List ℕ) (p : ℕ) → table_refusal ms ws p ≡ 0 → length ms ≤ length ws
unfolding when◌then◌else◌
words_enough ms ws p h = (rw (eq-eqb (table_refusal ms ws p) 0 h) at (few_stepped ms ws p)).1
