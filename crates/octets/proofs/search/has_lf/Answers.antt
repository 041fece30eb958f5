use Prim.Native.Nat.{ℕ, ◌^◌, ◌<◌}
use mathlib.Core.Path.{ap, ◌∙◌}
use mathlib.Core.Bool.{not, not-not}
use native.Mathlib.Nat.{lt_of_le_of_lt}
use native.Mathlib.Omega.{arith}
use lib.Dec.{lit<}
use lib.Bits.{bit_and, xor_lt, and_le_r}
use Rattle.octets.specs.Split.{LF}
use Rattle.octets.proofs.WordLaws.{each_byte, lf_test, word_fits}
use Rattle.octets.proofs.search.has_lf.Goals as goal

-- what is added has no highest bit, nor has what it is added to
pub overflow_add-result : goal.overflow_add-result
unfolding each_byte
overflow_add-result c =
    let low : ℕ = each_byte 8 127 in
    let m : ℕ = bit_and c.args.w low in
    let h : m < 2 ^ 63 = lt_of_le_of_lt (and_le_r c.args.w low) (lit< tt) in
    record { fits = omega (arith, xor_lt 63 m (each_byte 8 LF) h (lit< tt)) }

pub returns : goal.returns
unfolding each_byte
returns c = let w = c.args.w in ap not (lf_test 8 w (word_fits w c.ranges.w.fits)) ∙ not-not _
