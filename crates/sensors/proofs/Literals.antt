-- What the literals of the code are.
use Rattle.std.proofs.Common.{◌≡◌, ℕ, ap}
use Rattle.std.specs.Float.{binary32, float_zero}
use Rattle.std.specs.Float.Ieee.{of_bits, of_int}
use Rattle.sensors.specs.Sensors.{float_of}

pub million_is : (b : ℕ) → b ≡ 0x4974_2400 → of_bits binary32 b ≡ float_of 1000000
unfolding of_bits float_of of_int
million_is b e = ap (of_bits binary32) e

pub two_is : (b : ℕ) → b ≡ 0x4000_0000 → of_bits binary32 b ≡ float_of 2
unfolding of_bits float_of of_int
two_is b e = ap (of_bits binary32) e

pub three_is : (b : ℕ) → b ≡ 0x4040_0000 → of_bits binary32 b ≡ float_of 3
unfolding of_bits float_of of_int
three_is b e = ap (of_bits binary32) e

pub zero_is : (b : ℕ) → b ≡ 0 → of_bits binary32 b ≡ float_zero
unfolding of_bits
zero_is b e = ap (of_bits binary32) e
