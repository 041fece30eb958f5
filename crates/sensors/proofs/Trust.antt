-- A trusted reading is a number, and that it lies within the bounds is told by two comparisons.
use Rattle.std.proofs.Common.{◌≡◌, ℕ, ◌+◌, ◌*◌, ◌<◌, Bool, true, false, not, ◌&&◌, ◌||◌, ltb, eqb, refl, ◌∙◌, sym, arith}
use Rattle.std.proofs.lemmas.Bool.{and_parts, false≢true, ltb-true, lt-ltb, eqb-true}
use Rattle.std.proofs.Math.Bool.{and-true}
use Rattle.std.specs.Prelude.{ℤ, pos}
use Rattle.std.specs.Float.{Float, NotNan, float_is_finite, float_with_sign}
use Rattle.std.specs.Float.Ieee.{le, lt, eq, neg, up, down, of_int, nan, inf, fin, is_nan}
use lib.Ieee.Fits.{down_pos}
use Rattle.sensors.specs.declared.Sensors.{Sensors}
use Rattle.sensors.specs.declared.Sensor.{Sensor}
use Rattle.sensors.specs.Sensors.{reading, is_marked, is_trusted, float_of}

pub finite_and_within : (s : Sensors) (n : Sensor) → is_trusted s n ≡ true
    → (float_is_finite (reading s n) ≡ true) × (le (float_with_sign false (reading s n)) (float_of 1000000) ≡ true)
unfolding is_trusted
finite_and_within s n h = and_parts _ _ (and_parts (not (is_marked s n)) _ h).1

number_if_finite : (x : Float) → float_is_finite x ≡ true → NotNan x
unfolding float_is_finite is_nan
number_if_finite nan h = absurd (false≢true h)
number_if_finite (inf s) h = tt
number_if_finite (fin s m e) h = tt

pub number_is : (s : Sensors) (n : Sensor) → is_trusted s n ≡ true → NotNan (reading s n)
number_is s n h = number_if_finite (reading s n) (finite_and_within s n h).0

-- ---- at most 1,000,000 in magnitude: between -1,000,000 and 1,000,000, which are written out where they compute
above_0 : (a b : ℕ) (c : Bool) → 0 < a + b → (ltb 0 (a + b) || c) ≡ true
above_0 a b c h = grind (arith, lt-ltb)

above_minus_million : (m : ℕ) (e : ℤ) → le (fin true 15625 (pos 6)) (fin false m e) ≡ true
unfolding le lt eq
above_minus_million m e = let p = down_pos e in above_0 (1000000 * down e) (m * up e * 1) _ (omega arith)

below_million : (m : ℕ) (e : ℤ) → le (fin true m e) (fin false 15625 (pos 6)) ≡ true
unfolding le lt eq
below_million m e = let p = down_pos e in above_0 (m * up e * 1) (1000000 * down e) _ (omega arith)

either_order : (a b : ℕ) → (ltb a b || (eqb a b && true)) ≡ (ltb a b || (eqb b a && true))
either_order a b = grind (arith, ltb-true, eqb-true)

magnitude_is : (m : ℕ) (e : ℤ) → le (fin false m e) (fin false 15625 (pos 6)) ≡ le (fin true 15625 (pos 6)) (fin true m e)
unfolding le lt eq
magnitude_is m e = either_order (m * up e * 1) (1000000 * down e)

pub between_is : (x : Float) → (float_is_finite x && le (float_with_sign false x) (float_of 1000000)) ≡ (le (neg (float_of 1000000)) x && le x (float_of 1000000))
unfolding float_is_finite float_with_sign float_of of_int le lt eq neg
between_is nan = refl
between_is (inf true) = refl
between_is (inf false) = refl
between_is (fin false m e) = rw (above_minus_million m e) refl
between_is (fin true m e) = rw (below_million m e) (magnitude_is m e ∙ sym (and-true (le (fin true 15625 (pos 6)) (fin true m e))))
