-- The constant arrays of the commands: each agrees with its rule at every number, by one test that antt computes. Assumes nothing.
use mathlib.Core.Path.{◌≡◌, refl}
use mathlib.Core.Bool.{false}
use mathlib.Core.List.{[], ◌∷◌}
use Prim.Native.Nat.{ℕ, ◌<◌, ◌≤◌}
use native.Mathlib.Omega.{arith}
use lib.Dec.{eqb, lit<}
use lib.ListN.{get_or}
use borrow.Author.Tests.{ne_eqb}
use Rattle.words.specs.Word.{when◌then◌else◌}
use Rattle.words.proofs.Laws.{agree_at}
use Rattle.rules.specs.Record.{direction, input_bit}

-- what is past the table is none of the commands
past : (c k : ℕ) → 8 ≤ c → k < 8 → eqb c k ≡ false
past c k h l = ne_eqb c k (λ e. omega arith)

pub direction_at : (c : ℕ) → c < 8 → get_or (0 ∷ 1 ∷ 1 ∷ 2 ∷ 1 ∷ 2 ∷ 1 ∷ 2 ∷ []) c 0 ≡ direction c
unfolding direction when◌then◌else◌
direction_at = agree_at (λ c. get_or (0 ∷ 1 ∷ 1 ∷ 2 ∷ 1 ∷ 2 ∷ 1 ∷ 2 ∷ []) c 0) direction 8 refl

pub direction_past : (c : ℕ) → 8 ≤ c → direction c ≡ 0
unfolding direction when◌then◌else◌
direction_past c h =
    simp (past c 1 h (lit< tt), past c 2 h (lit< tt), past c 3 h (lit< tt), past c 4 h (lit< tt), past c 5 h (lit< tt), past c 6 h (lit< tt), past c 7 h (lit< tt))

pub input_at : (c : ℕ) → c < 8 → get_or (32 ∷ 0 ∷ 8 ∷ 7 ∷ 3 ∷ 2 ∷ 13 ∷ 12 ∷ []) c 0 ≡ input_bit c
unfolding input_bit when◌then◌else◌
input_at = agree_at (λ c. get_or (32 ∷ 0 ∷ 8 ∷ 7 ∷ 3 ∷ 2 ∷ 13 ∷ 12 ∷ []) c 0) input_bit 8 refl

pub input_past : (c : ℕ) → 8 ≤ c → input_bit c ≡ 32
unfolding input_bit when◌then◌else◌
input_past c h =
    simp (past c 1 h (lit< tt), past c 2 h (lit< tt), past c 3 h (lit< tt), past c 4 h (lit< tt), past c 5 h (lit< tt), past c 6 h (lit< tt), past c 7 h (lit< tt))
