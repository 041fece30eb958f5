-- Each value that is answered is a number of at most 1,000,000 in magnitude: rule 11.8.
use Rattle.std.proofs.Common.{◌≡◌, ℕ, ◌*◌, Bool, true, false, refl, arith}
use Rattle.std.proofs.lemmas.Float.{T_from_true}
use Rattle.std.proofs.Math.Nat.{le_trans, le_of_eq, mul-one}
use Rattle.std.specs.Prelude.{IfSome, pos}
use Rattle.std.specs.Float.{Float, nan, inf, fin, binary32, float_with_sign}
use Rattle.std.specs.Float.Ieee.{le, up, down, add, is_nan, of_int}
use Rattle.words.specs.Word.{when◌then◌else◌}
use Rattle.sensors.specs.declared.Sensors.{Sensors}
use Rattle.sensors.specs.declared.Sensor.{Sensor}
use Rattle.sensors.specs.declared.Sensor.TheVariants.{First, Second, Third}
use Rattle.sensors.specs.declared.Value.{Value}
use Rattle.sensors.specs.declared.Value.TheVariants.{Known, Absent}
use Rattle.sensors.specs.declared.Answer.{Answer}
use Rattle.sensors.specs.Sensors.{reading, float_of, is_trusted, value_of, IsWithin, middle, least, greatest, mean_of_two, mean_of_three, mean_without, unless_withheld, both_pass, one_fails, both_fail, by_differences, of_three, of_two, of_one, of_none, by_trust, trusted_answer}
use Rattle.sensors.proofs.Trust.{finite_and_within}
use Rattle.sensors.proofs.Bounds.{AtMost, below_whole, add_within, div_within, to_test}

abbrev most : ℕ
most = 1000000

-- the statement, and the one of fractions that the proofs go by
within_if : (x : Float) → AtMost most x → IsWithin x
unfolding le float_with_sign is_nan float_of of_int
within_if nan h = absurd h
within_if (inf s) h = absurd h
within_if (fin s m e) h = (tt, to_test (m * up e * 1) (1000000 * down e) (le_trans (le_of_eq (mul-one (m * up e))) h))

trusted_within : (s : Sensors) (n : Sensor) → is_trusted s n ≡ true → AtMost most (reading s n)
unfolding float_of of_int
trusted_within s n h = below_whole (reading s n) (float_of 1000000) most (T_from_true _ (finite_and_within s n h).1) (refl, refl)

when_both : {A : Type 0} (P : A → Type 0) (b : Bool) (x y : A) → P x → P y → P (when b then x else y)
unfolding when◌then◌else◌
when_both P true x y p q = p
when_both P false x y p q = q

-- ---- means

two_within : (s : Sensors) (i j : Sensor) → AtMost most (reading s i) → AtMost most (reading s j) → AtMost most (mean_of_two s i j)
unfolding mean_of_two float_of of_int
two_within s i j p q =
    div_within 2000000 most 1 (pos 1) (add binary32 (reading s i) (reading s j)) (omega arith) (omega arith) (omega arith)
    (add_within most most (reading s i) (reading s j) (omega arith) p q)

three_within : (s : Sensors) → AtMost most s.first → AtMost most s.second → AtMost most s.third → AtMost most (mean_of_three s)
unfolding mean_of_three float_of of_int
three_within s p q r =
    div_within 3000000 most 3 (pos 0) (add binary32 (add binary32 s.first s.second) s.third) (omega arith) (omega arith) (omega arith)
    (add_within 2000000 most (add binary32 s.first s.second) s.third (omega arith) (add_within most most s.first s.second (omega arith) p q) r)

-- ---- answers

abbrev Kept : Answer → Type 0
Kept a = IfSome (value_of a.value) (AtMost most)

abbrev AllWithin : Sensors → Type 0
AllWithin s = (n : Sensor) → AtMost most (reading s n)

withheld_kept : (x : Float) (options : ℕ) → AtMost most x → IfSome (value_of (unless_withheld options x)) (AtMost most)
unfolding unless_withheld
withheld_kept x options h = when_both (λ (v : Value). IfSome (value_of v) (AtMost most)) _ Absent (Known x) tt h

without_within : (s : Sensors) (n : Sensor) → AllWithin s → AtMost most (mean_without s n)
unfolding mean_without
without_within s First f = two_within s Second Third (f Second) (f Third)
without_within s Second f = two_within s First Third (f First) (f Third)
without_within s Third f = two_within s First Second (f First) (f Second)

differences_kept : (s : Sensors) (options : ℕ) (above below : Bool) → AllWithin s → Kept (by_differences above below s options)
unfolding by_differences both_pass one_fails both_fail reading
differences_kept s options false false f = when_both (AtMost most) _ _ _ (three_within s (f First) (f Second) (f Third)) (f (middle s))
differences_kept s options true false f = without_within s (greatest s) f
differences_kept s options false true f = without_within s (least s) f
differences_kept s options true true f = withheld_kept (reading s (middle s)) options (f (middle s))

all_within : (s : Sensors) → AtMost most s.first → AtMost most s.second → AtMost most s.third → AllWithin s
unfolding reading
all_within s p q r First = p
all_within s p q r Second = q
all_within s p q r Third = r

two_kept : (s : Sensors) (i j : Sensor) (options : ℕ) → AtMost most (reading s i) → AtMost most (reading s j) → Kept (of_two s i j options)
unfolding of_two
two_kept s i j options p q = when_both (AtMost most) _ _ _ (two_within s i j p q) (when_both (AtMost most) _ _ _ p q)

trust_kept : (s : Sensors) (options : ℕ) (x y z : Bool) → (x ≡ true → AtMost most (reading s First)) → (y ≡ true → AtMost most (reading s Second)) → (z ≡ true → AtMost most (reading s Third)) → Kept (by_trust x y z s options)
unfolding by_trust of_three of_one of_none reading
trust_kept s options true true true p q r = differences_kept s options _ _ (all_within s (p refl) (q refl) (r refl))
trust_kept s options false true true p q r = two_kept s Second Third options (q refl) (r refl)
trust_kept s options true false true p q r = two_kept s First Third options (p refl) (r refl)
trust_kept s options true true false p q r = two_kept s First Second options (p refl) (q refl)
trust_kept s options true false false p q r = withheld_kept (reading s First) options (p refl)
trust_kept s options false true false p q r = withheld_kept (reading s Second) options (q refl)
trust_kept s options false false true p q r = withheld_kept (reading s Third) options (r refl)
trust_kept s options false false false p q r = tt

value_within : (v : Value) → IfSome (value_of v) (AtMost most) → IfSome (value_of v) IsWithin
value_within Absent h = tt
value_within (Known x) h = within_if x h

pub answer_within : (s : Sensors) (options : ℕ) → IfSome (value_of (trusted_answer s options).value) IsWithin
unfolding trusted_answer
answer_within s options = value_within _ (trust_kept s options _ _ _ (trusted_within s First) (trusted_within s Second) (trusted_within s Third))
