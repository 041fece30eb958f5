-- The numbers of the refusals are 1 to 10, so that 0 is left for what is accepted.
-- Assumes nothing.
use mathlib.Core.Path.{◌≡◌, refl}
use mathlib.Core.Bool.{true, false≢true}
use Prim.Native.Nat.{◌<◌}
use native.Mathlib.Omega.{arith}
use Rattle.std.specs.Prelude.{Result, Ok, Err}
use Rattle.std.specs.Result.{is_ok}
use Rattle.refusals.specs.declared.Refusal.{Refusal}
use Rattle.refusals.specs.declared.Refusal.TheVariants.{Size, Period, Word, Setting, Line, Record, Full, Scanned, Number, Absent}
use Rattle.refusals.specs.Numbers.{number_of, code_of}

pub number_positive : (r : Refusal) → 0 < number_of r
number_positive Size = omega arith
number_positive Period = omega arith
number_positive Word = omega arith
number_positive Setting = omega arith
number_positive Line = omega arith
number_positive Record = omega arith
number_positive Full = omega arith
number_positive Scanned = omega arith
number_positive Number = omega arith
number_positive Absent = omega arith

pub is_ok-from_zero : {T : Type 0} (r : Result T Refusal) → code_of r ≡ 0 → is_ok r ≡ true
is_ok-from_zero (Ok value) e = refl
is_ok-from_zero (Err refusal) e = absurd (omega (arith, e, number_positive refusal))

pub zero-from_is_ok : {T : Type 0} (r : Result T Refusal) → is_ok r ≡ true → code_of r ≡ 0
zero-from_is_ok (Ok value) e = refl
zero-from_is_ok (Err refusal) e = absurd (false≢true e)
