-- How large a sum and a quotient in single precision can be. Rounding keeps order, so what a whole number that the format holds bounds
-- before rounding it bounds after.
use Rattle.std.proofs.Common.{◌≡◌, ℕ, ◌+◌, ◌-◌, ◌*◌, ◌^◌, ◌<◌, ◌≤◌, Bool, true, false, T, ◌&&◌, ◌||◌, cond, ltb, eqb, ap, refl, sym, ◌∙◌, subst, arith, zero, suc}
use Rattle.std.proofs.lemmas.Bool.{cond_both, eqb-true, ltb-true, lt-ltb, false≢true}
use Rattle.std.proofs.Math.Nat.{le_trans, le_of_eq, mul-le-mul_right, mul_assoc, mul_comm, mul_right_comm, mul-one, le_of_mul-le-mul_right, mul-pos}
use Rattle.std.specs.Prelude.{ℤ}
use Rattle.std.specs.Float.{Float, Format, binary32, nan, inf, fin, float_with_sign}
use Rattle.std.specs.Float.Ieee.{add, div, sum, round, units, odd, le, up, down, low, prec}
use mathlib.Core.Bool.{beq}
use lib.Ieee.Exact.{HasValue}
use lib.Ieee.Fits.{round_is, up_pos, down_pos}
use lib.Ieee.Order.{round_mono}
use lib.Ieee.Back.{round_whole}

-- a finite x of a magnitude of at most n
abbrev pub AtMost : ℕ → Float → Type 0
AtMost n nan = ⊥
AtMost n (inf s) = ⊥
AtMost n (fin s m e) = m * up e ≤ n * down e

-- ---- the magnitude of a rounded fraction does not go by its sign
odd_magnitude : (d : ℕ) (s : Bool) (q k l : ℕ) → float_with_sign false (odd d s q k l) ≡ odd d false q k l
unfolding odd float_with_sign
odd_magnitude d s zero k l = refl
odd_magnitude d s (suc q) k l = refl

cond_magnitude : (b s : Bool) (x y : Float) → float_with_sign false x ≡ y → float_with_sign false (cond b x (inf s)) ≡ cond b y (inf false)
unfolding float_with_sign
cond_magnitude true s x y e = e
cond_magnitude false s x y e = refl

units_magnitude : (f : Format) (s : Bool) (q k : ℕ) → float_with_sign false (units f s q k) ≡ units f false q k
unfolding units
units_magnitude f s q k = cond_magnitude _ s _ _ (odd_magnitude (suc (prec f)) s q k (low f))

round_magnitude : (f : Format) (s : Bool) (n d : ℕ) → float_with_sign false (round f s n d) ≡ round f false n d
round_magnitude f s n d = ap (float_with_sign false) (round_is f s n d) ∙ units_magnitude f s _ _ ∙ sym (round_is f false n d)

-- ---- at most a whole number that the format holds
from_test : (a b : ℕ) → T (ltb a b || (eqb a b && true)) → a ≤ b
from_test a b t = grind (arith, ltb-true, eqb-true)

pub to_test : (a b : ℕ) → a ≤ b → T (ltb a b || (eqb a b && true))
to_test a b h = grind (arith, ltb-true, lt-ltb, eqb-true)

pub below_whole : (x y : Float) (n : ℕ) → T (le (float_with_sign false x) y) → HasValue y false n 1 → AtMost n x
unfolding le float_with_sign
below_whole x nan n t v = absurd v
below_whole x (inf u) n t v = absurd v
below_whole nan (fin u k d) n t v = absurd t
below_whole (inf s) (fin u k d) n t v = absurd t
below_whole (fin s m e) (fin true k d) n t v = absurd (false≢true (sym v.0))
below_whole (fin s m e) (fin false k d) n t v =
    let h : m * up e * down d ≤ k * up d * down e = from_test (m * up e * down d) (k * up d * down e) t in
    let e1 : k * up d ≡ n * down d = sym (mul-one (k * up d)) ∙ v.1 in
    let r : k * up d * down e ≡ n * down e * down d = ap (λ (z : ℕ). z * down e) e1 ∙ mul_right_comm n (down d) (down e) in
    le_of_mul-le-mul_right (le_trans h (le_of_eq r)) (down_pos d)

round_within : (s : Bool) (n d k : ℕ) → 0 < d → k ≤ 2 ^ 24 → n ≤ k * d → AtMost k (round binary32 s n d)
round_within s n d k D K h =
    let one : n * 1 ≤ k * d = le_trans (le_of_eq (mul-one n)) h in
    let t : T (le (round binary32 false n d) (round binary32 false k 1)) = round_mono binary32 n d k 1 D (omega arith) one in
    below_whole (round binary32 s n d) (round binary32 false k 1) k
    (subst (λ (z : Float). T (le z (round binary32 false k 1))) (sym (round_magnitude binary32 s n d)) t)
    (round_whole binary32 false k K)

-- ---- sums and quotients
sum_within : (s t : Bool) (m n c a b : ℕ) → 0 < c → a + b ≤ 2 ^ 24 → m ≤ a * c → n ≤ b * c → AtMost (a + b) (sum binary32 s m t n c)
unfolding sum
sum_within s t m n c a b C K p q =
    let same = round_within s (m + n) c (a + b) C K (omega arith) in
    let more = round_within t (n - m) c (a + b) C K (omega arith) in
    let less = round_within (s && ltb n m) (m - n) c (a + b) C K (omega arith) in
    cond_both (beq s t) (round binary32 s (m + n) c) (cond (ltb m n) (round binary32 t (n - m) c) (round binary32 (s && ltb n m) (m - n) c)) (AtMost (a + b)) (λ e. same)
    (λ e. cond_both (ltb m n) (round binary32 t (n - m) c) (round binary32 (s && ltb n m) (m - n) c) (AtMost (a + b)) (λ e'. more) (λ e'. less))

scaled : (m a d e : ℕ) → m ≤ a * d → m * e ≤ a * (d * e)
scaled m a d e h = le_trans (mul-le-mul_right e h) (le_of_eq (mul_assoc a d e))

pub add_within : (a b : ℕ) (x y : Float) → a + b ≤ 2 ^ 24 → AtMost a x → AtMost b y → AtMost (a + b) (add binary32 x y)
unfolding add
add_within a b nan y K p q = absurd p
add_within a b (inf s) y K p q = absurd p
add_within a b (fin s m e) nan K p q = absurd q
add_within a b (fin s m e) (inf t) K p q = absurd q
add_within a b (fin s m e) (fin t n d) K p q =
    sum_within s t (m * up e * down d) (n * up d * down e) (down e * down d) a b (mul-pos (down_pos e) (down_pos d)) K
    (scaled (m * up e) a (down e) (down d) p)
    (le_trans (scaled (n * up d) b (down d) (down e) q) (le_of_eq (ap (λ (z : ℕ). b * z) (mul_comm (down d) (down e)))))

pub div_within : (k j n : ℕ) (d : ℤ) (x : Float) → 0 < n → j ≤ 2 ^ 24 → k * down d ≤ j * (n * up d) → AtMost k x → AtMost j (div binary32 x (fin false n d))
unfolding div
div_within k j n d nan N J h p = absurd p
div_within k j n d (inf s) N J h p = absurd p
div_within k j n d (fin s m e) N J h p =
    cond_both (eqb n 0) _ _ (AtMost j) (λ z. let w : n ≡ 0 = eqb-true n 0 z in absurd (omega arith))
    (λ z. round_within _ (m * up e * down d) (n * up d * down e) j (mul-pos (mul-pos N (up_pos d)) (down_pos e)) J
    (le_trans (mul-le-mul_right (down d) p)
    (le_trans (le_of_eq (mul_right_comm k (down e) (down d)))
    (le_trans (mul-le-mul_right (down e) h) (le_of_eq (mul_assoc j (n * up d) (down e)))))))
