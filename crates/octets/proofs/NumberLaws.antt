-- Laws of digits and the numbers that they say. Assumes nothing.
use Prim.Native.Nat.{ℕ, ◌+◌, ◌-◌, ◌*◌, ◌<◌, ◌≤◌}
use mathlib.Core.Path.{◌≡◌, refl, sym, ◌∙◌}
use mathlib.Core.Bool.{Bool, true, false, ◌&&◌, ◌||◌, and-true as and_one, and-false}
use mathlib.Core.List.{List, [], ◌∷◌, ◌++◌}
use native.Mathlib.Decide.{dec_lt}
use native.Mathlib.Omega.{arith}
use lib.ListN.{length, get_or}
use lib.Dec.{eqb, leb, ltb}
use borrow.Author.Tests.{le-leb, ne_eqb, le-ltb, lt-ltb, leb-true, eqb-false}
use Rattle.words.specs.Word.{when◌then◌else◌}
use Rattle.words.proofs.Laws.{and_true, both_le}
use Rattle.octets.specs.Number.{largest, is_digit, all_digits, value_from, digits_number, leading_zero, number_of}
use Rattle.std.specs.Prelude.{Some, None}
use Rattle.std.specs.Bool.{then_some}

-- a value never falls
pub value_grows : (v : ℕ) (s : List ℕ) → v ≤ value_from v s
unfolding value_from
value_grows v [] = omega arith
value_grows v (b ∷ s) = omega (arith, value_grows (v * 10 + (b - 48)) s)

-- ---- digits

pub digit_range : (b : ℕ) → is_digit b ≡ true → (48 ≤ b) × (b ≤ 57)
unfolding is_digit
digit_range b e = both_le e

-- one digit more at the end
pub value_more : (v : ℕ) (s : List ℕ) (b : ℕ) → value_from v (s ++ b ∷ []) ≡ value_from v s * 10 + (b - 48)
unfolding value_from
value_more v [] b = refl
value_more v (x ∷ s) b = value_more (v * 10 + (x - 48)) s b

pub first_digit : (s : List ℕ) → all_digits s ≡ true → 0 < length s → 48 ≤ get_or s 0 0
first_digit [] e h = absurd (omega arith)
first_digit (x ∷ s) e h = (digit_range x (and_true (is_digit x) (all_digits s) e).0).0

-- ---- what a field of digits says

pub in_range_lem : (s : List ℕ) (v : ℕ) → all_digits s ≡ true → value_from 0 s ≡ v → v ≤ largest → digits_number s ≡ Some v
unfolding digits_number when◌then◌else◌
in_range_lem s v d e h = rw (d, e, le-leb v largest h)

-- ---- what a field says, by its first byte

pub plain_number : (s : List ℕ) → 0 < length s → (1 < length s → get_or s 0 0 ≡ 48 → ⊥) → number_of s ≡ digits_number s
unfolding number_of leading_zero when◌then◌else◌
plain_number s h n = rw (ne_eqb (length s) 0 (λ z. omega arith)) (go (dec_lt 1 (length s)))
  where
    go : Dec (1 < length s) → (when eqb (get_or s 0 0) 48 && ltb 1 (length s) then None else digits_number s) ≡ digits_number s
    go (yes l) = rw (ne_eqb (get_or s 0 0) 48 (n l))
    go (no l) = rw (le-ltb 1 (length s) (omega arith), and-false (eqb (get_or s 0 0) 48))

-- ---- a field says a number if it spells it: digits, at least one, and no 0 in front of others

pub record Spells (n : ℕ) (field : List ℕ) : Type 0 where
  pub some : 0 < length field
  pub digits : all_digits field ≡ true
  pub value : value_from 0 field ≡ n
  pub plain : 1 < length field → 48 < get_or field 0 0

pub spells_number : {n : ℕ} {s : List ℕ} → Spells n s → n ≤ largest → number_of s ≡ Some n
spells_number {n} {s} p h = plain_number s p.some (λ l e. omega (arith, p.plain l)) ∙ in_range_lem s n p.digits p.value h

-- the tests that led to a number
tests : (e z d l : Bool) (v n : ℕ) → (when e || z then None else then_some (d && l) v) ≡ Some n
    → (e ≡ false) × (z ≡ false) × (d ≡ true) × (l ≡ true) × (v ≡ n)
unfolding when◌then◌else◌
tests false false true true v n e = (refl, refl, refl, refl, (cc))
tests true z d l v n e = let c : ◌≡◌ {A = ℕ} 0 1 = cc in absurd (omega arith)
tests false true d l v n e = let c : ◌≡◌ {A = ℕ} 0 1 = cc in absurd (omega arith)
tests false false false l v n e = let c : ◌≡◌ {A = ℕ} 0 1 = cc in absurd (omega arith)
tests false false true false v n e = let c : ◌≡◌ {A = ℕ} 0 1 = cc in absurd (omega arith)

no_zero : (s : List ℕ) → all_digits s ≡ true → leading_zero s ≡ false → 1 < length s → 48 < get_or s 0 0
unfolding leading_zero
no_zero s d z h =
    let n = eqb-false (get_or s 0 0) 48 (sym (and_one (eqb (get_or s 0 0) 48)) ∙ rw (lt-ltb 1 (length s) h) at z) in
    omega (arith, first_digit s d (omega arith), n)

pub number_spells : (s : List ℕ) (n : ℕ) → number_of s ≡ Some n → Spells n s × (n ≤ largest)
unfolding number_of digits_number
number_spells s n e =
    let t = tests (eqb (length s) 0) (leading_zero s) (all_digits s) (leb (value_from 0 s) largest) (value_from 0 s) n e in (
      record { some = omega (arith, eqb-false (length s) 0 t.0); digits = t.2; value = t.4; plain = no_zero s t.2 t.1 },
      omega (arith, t.4, leb-true (value_from 0 s) largest t.3),
    )
