-- What shift and mask make of a word, against its quotients and remainders: each law once, over the index and the width.
-- Assumes nothing.
use mathlib.Core.Path.{◌≡◌, refl, sym, ap, ap₂, ◌∙◌, subst}
use mathlib.Core.Bool.{Bool, true, false, not, ◌&&◌, and-eq-true_iff}
use mathlib.Core.Logic.{◌≢◌, ◌⊎◌, inl, inr}
use Prim.Native.Nat.{ℕ, zero, suc, ◌+◌, ◌-◌, ◌*◌, ◌/◌, ◌%◌, ◌^◌, ◌<◌, ◌≤◌, min}
use native.Mathlib.Nat.{sub-le, lt_of_lt_of_le, pow-suc, mod-lt, div-eq_of_lt, one-mul, zero-mul, add-zero, add-suc, div-one, zero-min, add-mul-div_right, div-add-mod', div-mul-le_self, mul-le-mul_right, mul-div_cancel, mul_assoc, mod-le}
use native.Mathlib.Numerals.{one-add}
use native.Mathlib.Omega.{arith}
use lib.Dec.{lit<, eqb, leb, ltb}
use lib.Arith.{lt-one}
use lib.Pow.{pow_pos, pow-lt, pow_mono, pow-add, shl_lt, shl_exact, shr_lt, shr-shr, ones_lt, high_ones}
use lib.Bits.{bit_and, bit_or, or_lt, and_le_l, and_high, and_step, and_shr, and_mod, or_add_and}
use borrow.Author.Tests.{lt-ltb, le-ltb, ltb-true, ltb-false, leb-true, eq-eqb, ne_eqb, eqb-true, eqb-false}
use Rattle.words.specs.Word.{when◌then◌else◌, bit_of, is_set, without, without_bits, without_bit, with_bit}

-- a bit is 0 or 1
pub bit_lt : (k w : ℕ) → bit_of k w < 2
unfolding bit_of
bit_lt k w = mod-lt (w / 2 ^ k) (lit< tt)

-- a word has no bit past the last
pub bit_past : (k w : ℕ) → 32 ≤ k → w < 2 ^ 32 → bit_of k w ≡ 0
unfolding bit_of
bit_past k w hk hw = rw (div-eq_of_lt (lt_of_lt_of_le hw (pow_mono hk)))

-- 1 << k
pub one_shl : (k : ℕ) → k < 32 → 1 * 2 ^ k % 2 ^ 32 ≡ 2 ^ k
one_shl k h = shl_exact 1 k 32 (lit< tt) (omega arith) ∙ one-mul (2 ^ k)

one_bit : (k : ℕ) → (2 ^ 1 - 1) * 2 ^ k ≡ 2 ^ k
one_bit k = one-mul (2 ^ k)

-- the bit that a mask of one takes
and_bit : (k w : ℕ) → bit_and w (2 ^ k) ≡ bit_of k w * 2 ^ k
unfolding bit_of
and_bit k w = ap (bit_and w) (sym (high_ones 1 k ∙ one_bit k)) ∙ and_high w 1 k

-- setting a bit
pub or_bit : (k w : ℕ) → k < 32 → bit_or w (2 ^ k) ≡ with_bit k w
unfolding with_bit when◌then◌else◌
or_bit k w h =
    rw (lt-ltb k 32 h) (omega (arith, or_add_and w (2 ^ k), and_bit k w, part (bit_of k w) (2 ^ k) (bit_lt k w)))
  where
    part : (b p : ℕ) → b < 2 → (1 - b) * p + b * p ≡ p
    part zero p h = rw (one-mul, zero-mul, add-zero)
    part (suc zero) p h = rw (zero-mul, one-mul) (omega arith)
    part (suc (suc b)) p h = absurd (omega arith)

pub set_past : (k w : ℕ) → 32 ≤ k → with_bit k w ≡ w
unfolding with_bit when◌then◌else◌
set_past k w h = rw (le-ltb k 32 h)

-- what a mask takes and what it leaves make up the word
and_not : (j a b : ℕ) → a < 2 ^ j → b < 2 ^ j → bit_and a b + bit_and a (2 ^ j - 1 - b) ≡ a
and_not zero a b ha hb = omega (arith, lt-one ha, and_le_l a b, and_le_l a (2 ^ zero - 1 - b))
and_not (suc j) a b ha hb =
    let p : 2 ^ suc j ≡ 2 ^ j * 2 = pow-suc 2 j in
    let high : (2 ^ suc j - 1 - b) / 2 ≡ 2 ^ j - 1 - b / 2 = omega arith in
    let low : (2 ^ suc j - 1 - b) % 2 ≡ 1 - b % 2 = omega arith in
    digits a (bit_and (a / 2) (b / 2)) (bit_and (a / 2) (2 ^ j - 1 - b / 2)) (b % 2) _ _ (and_step a b)
    (and_step a (2 ^ suc j - 1 - b) ∙ ap₂ (λ (x y : ℕ). bit_and (a / 2) x * 2 + min (a % 2) y) high low) (mod-lt b (lit< tt))
    (and_not j (a / 2) (b / 2) (omega arith) (omega arith))
  where
    digits : (a u v d x y : ℕ) → x ≡ u * 2 + min (a % 2) d → y ≡ v * 2 + min (a % 2) (1 - d) → d < 2 → u + v ≡ a / 2 → x + y ≡ a
    digits a u v zero x y p q h e = omega arith
    digits a u v (suc d) x y p q h e = omega arith

-- clearing the n bits from bit k on, by the mask of these
pub clear_bits : (k n w : ℕ) → n + k ≤ 32 → w < 2 ^ 32 → without ((2 ^ n - 1) * 2 ^ k) w ≡ without_bits k n w
unfolding without without_bits
clear_bits k n w h hw =
    let mask : ℕ = (2 ^ n - 1) * 2 ^ k in
    let fits : mask < 2 ^ 32 = lt_of_lt_of_le (shl_lt n k (ones_lt n)) (pow_mono h) in
    let taken : bit_and w mask ≡ w / 2 ^ k % 2 ^ n * 2 ^ k = rw (high_ones n k) at (and_high w n k) in
    let left : bit_and w (2 ^ 32 - 1 - mask) ≡ w - w / 2 ^ k % 2 ^ n * 2 ^ k = omega (arith, and_not 32 w mask hw fits) in
    left

pub clear_bit : (k w : ℕ) → k < 32 → w < 2 ^ 32 → without (2 ^ k) w ≡ without_bit k w
unfolding without_bit
clear_bit k w hk hw = rw (one_bit k) at (clear_bits k 1 w (omega arith) hw)

pub clear_past : (k w : ℕ) → 32 ≤ k → w < 2 ^ 32 → without_bit k w ≡ w
unfolding without_bit without_bits
clear_past k w hk hw = rw (div-eq_of_lt (lt_of_lt_of_le hw (pow_mono hk)), zero-mul) (omega arith)

-- ---- what setting and clearing leaves alone

-- a bit from j on goes by the quotient
from_quotient : (j k w x : ℕ) → j ≤ k → x / 2 ^ j ≡ w / 2 ^ j → is_set k x ≡ is_set k w
unfolding is_set bit_of
from_quotient j k w x h e =
    let s : (n : ℕ) → n / 2 ^ k ≡ n / 2 ^ j / 2 ^ (k - j) = λ n. ap (λ (i : ℕ). n / 2 ^ i) (omega arith) ∙ sym (shr-shr n j (k - j)) in
    rw (s x, s w, e)

set_shr : (k w : ℕ) → (w + (1 - bit_of k w) * 2 ^ k) / 2 ^ k ≡ w / 2 ^ k + (1 - bit_of k w)
set_shr k w = add-mul-div_right w (1 - bit_of k w) (pow_pos k)

pub set_has : (k w : ℕ) → k < 32 → is_set k (with_bit k w) ≡ true
unfolding is_set bit_of with_bit when◌then◌else◌
set_has k w h = rw (lt-ltb k 32 h) (eq-eqb ((w + (1 - w / 2 ^ k % 2) * 2 ^ k) / 2 ^ k % 2) 1 (rw (set_shr k w) (omega arith)))

-- a multiple of what bit j counts changes no bit below it
low_kept : (j k w x : ℕ) → k < j → is_set k (w + x * 2 ^ j) ≡ is_set k w
unfolding is_set bit_of
low_kept j k w x h =
    let i : ℕ = j - k - 1 in
    let power : 2 ^ j ≡ 2 ^ suc i * 2 ^ k = ap (λ (n : ℕ). 2 ^ n) (omega arith) ∙ pow-add 2 (suc i) k in
    let split : x * 2 ^ j ≡ x * 2 ^ suc i * 2 ^ k = ap (λ (n : ℕ). x * n) power ∙ sym (mul_assoc x (2 ^ suc i) (2 ^ k)) in
    let even : x * 2 ^ suc i ≡ x * 2 ^ i * 2 = ap (λ (n : ℕ). x * n) (pow-suc 2 i) ∙ sym (mul_assoc x (2 ^ i) 2) in
    let shr : (w + x * 2 ^ j) / 2 ^ k ≡ w / 2 ^ k + x * 2 ^ i * 2 = ap (λ (n : ℕ). (w + n) / 2 ^ k) split ∙ add-mul-div_right w (x * 2 ^ suc i) (pow_pos k) ∙ ap (λ (n : ℕ). w / 2 ^ k + n) even in
    let same : (w + x * 2 ^ j) / 2 ^ k % 2 ≡ w / 2 ^ k % 2 = omega (arith, shr) in
    ap (λ (n : ℕ). eqb n 1) same

-- setting a bit changes no other
pub set_keeps : (j k w : ℕ) → j ≢ k → is_set k (with_bit j w) ≡ is_set k w
unfolding with_bit bit_of when◌then◌else◌
set_keeps j k w ne = go (ltb j 32) (ltb j k) refl
  where
    odd : (w / 2 ^ j + (1 - w / 2 ^ j % 2)) / 2 ≡ w / 2 ^ j / 2
    odd = omega arith

    half : (w + (1 - bit_of j w) * 2 ^ j) / 2 ^ (j + 1) ≡ w / 2 ^ (j + 1)
    half = sym (shr-shr (w + (1 - bit_of j w) * 2 ^ j) j 1) ∙ ap (λ (n : ℕ). n / 2) (set_shr j w) ∙ odd ∙ shr-shr w j 1

    go : (b above : Bool) → ltb j k ≡ above → is_set k (when b then w + (1 - bit_of j w) * 2 ^ j else w) ≡ is_set k w
    go true true e = from_quotient (j + 1) k w _ (let h = ltb-true j k e in omega arith) half
    go true false e = low_kept j k w _ (let h = ltb-false j k e in omega arith)
    go false above e = refl

-- what clearing the n bits from bit j on takes away is in the word, and leaves these bits 0
record Cleared (j n w : ℕ) : Type 0 where
  sum : without_bits j n w + w / 2 ^ j % 2 ^ n * 2 ^ j ≡ w
  high : without_bits j n w / 2 ^ j ≡ w / 2 ^ j / 2 ^ n * 2 ^ n

cleared : (j n w : ℕ) → Cleared j n w
unfolding without_bits
cleared j n w =
    let q : ℕ = w / 2 ^ j in
    let r : ℕ = q % 2 ^ n in
    let whole : q / 2 ^ n * 2 ^ n + r ≡ q = div-add-mod' q (2 ^ n) in
    let fits : r * 2 ^ j ≤ w = omega (arith, mul-le-mul_right (2 ^ j) (mod-le q (2 ^ n)), div-mul-le_self w (2 ^ j)) in
    let sum : w - r * 2 ^ j + r * 2 ^ j ≡ w = omega arith in
    let low : (w - r * 2 ^ j) / 2 ^ j + r ≡ q = sym (add-mul-div_right (w - r * 2 ^ j) r (pow_pos j)) ∙ ap (λ (x : ℕ). x / 2 ^ j) sum in
    record { sum = sum; high = omega arith }

-- and changes no other bit
pub clear_keeps : (j n k w : ℕ) → (k < j) ⊎ (j + n ≤ k) → is_set k (without_bits j n w) ≡ is_set k w
clear_keeps j n k w (inl h) =
    sym (low_kept j k (without_bits j n w) (w / 2 ^ j % 2 ^ n) h) ∙ ap (is_set k) (cleared j n w).sum
clear_keeps j n k w (inr h) =
    from_quotient (j + n) k w _ h
    (sym (shr-shr (without_bits j n w) j n) ∙ ap (λ (x : ℕ). x / 2 ^ n) (cleared j n w).high ∙ mul-div_cancel (w / 2 ^ j / 2 ^ n) (pow_pos n)
    ∙ shr-shr w j n)

pub clear_one_keeps : (j k w : ℕ) → j ≢ k → is_set k (without_bit j w) ≡ is_set k w
unfolding without_bit
clear_one_keeps j k w ne = clear_keeps j 1 k w (go (ltb k j) refl)
  where
    go : (below : Bool) → ltb k j ≡ below → (k < j) ⊎ (j + 1 ≤ k)
    go true e = inl (ltb-true k j e)
    go false e = inr (let h = ltb-false k j e in omega arith)

-- a bit that is cleared is 0
pub clear_has : (k w : ℕ) → is_set k (without_bit k w) ≡ false
unfolding without_bit is_set bit_of
clear_has k w = ne_eqb (without_bits k 1 w / 2 ^ k % 2) 1 (λ e. let h = (cleared k 1 w).high in omega arith)

-- a choice has what both of its arms have
pub either {ℓ} : {A : Type ℓ} (P : A → Type 0) (b : Bool) {x y : A} → P x → P y → P (when b then x else y)
unfolding when◌then◌else◌
either P true p q = p
either P false p q = q

-- what is taken of a choice is taken of each of its arms
pub if_map {ℓ κ} : {A : Type ℓ} {B : Type κ} (f : A → B) (b : Bool) (x y : A) → f (when b then x else y) ≡ (when b then f x else f y)
unfolding when◌then◌else◌
if_map f true x y = refl
if_map f false x y = refl

-- bounds
pub if_lt : {n : ℕ} (b : Bool) {x y : ℕ} → x < n → y < n → (when b then x else y) < n
if_lt {n} b = either (λ (k : ℕ). k < n) b

pub with_lt : (n k w : ℕ) → n ≤ 32 → k < n → w < 2 ^ n → with_bit k w < 2 ^ n
with_lt n k w hn hk hw = rw (or_bit k w (omega arith)) at (or_lt n w (2 ^ k) hw (pow-lt hk))

pub without_le : (k n w : ℕ) → without_bits k n w ≤ w
unfolding without_bits
without_le k n w = sub-le w _

-- two tests that hold together
pub and_true : (a b : Bool) → a && b ≡ true → (a ≡ true) × (b ≡ true)
and_true a b = (and-eq-true_iff a b).0

-- two bounds that are tested together
pub both_le : {a b c d : ℕ} → leb a b && leb c d ≡ true → (a ≤ b) × (c ≤ d)
both_le {a} {b} {c} {d} e = let w = and_true (leb a b) (leb c d) e in (leb-true a b w.0, leb-true c d w.1)

-- f and g are equal at each number below n
abbrev pub agree : (ℕ → ℕ) → (ℕ → ℕ) → ℕ → Bool
agree f g zero = true
agree f g (suc n) = eqb (f n) (g n) && agree f g n

pub agree_at : (f g : ℕ → ℕ) (n : ℕ) → agree f g n ≡ true → (k : ℕ) → k < n → f k ≡ g k
agree_at f g zero t k h = absurd (omega arith)
agree_at f g (suc n) t k h = let a = and_true (eqb (f n) (g n)) (agree f g n) t in go (eqb k n) refl a.0 (agree_at f g n a.1)
  where
    go : (y : Bool) → eqb k n ≡ y → eqb (f n) (g n) ≡ true → ((k : ℕ) → k < n → f k ≡ g k) → f k ≡ g k
    go true d e below = rw (eqb-true k n d) (eqb-true (f n) (g n) e)
    go false d e below = let q = eqb-false k n d in below k (omega arith)
