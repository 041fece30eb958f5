-- The masks of the flags that are cleared together, as the bits that they clear. Assumes nothing.
use Prim.Native.Nat.{ℕ, ◌<◌, ◌^◌}
use mathlib.Core.Path.{◌≡◌}
use lib.Dec.{lit≤}
use Rattle.words.specs.Word.{without, without_bits}
use Rattle.words.proofs.Laws.{clear_bits}

-- flags 5 and 6
pub off_flags : (w : ℕ) → w < 2 ^ 32 → without 96 w ≡ without_bits 5 2 w
off_flags w = clear_bits 5 2 w (lit≤ tt)

-- flags 2 to 13
pub reset_flags : (w : ℕ) → w < 2 ^ 32 → without 16380 w ≡ without_bits 2 12 w
reset_flags w = clear_bits 2 12 w (lit≤ tt)
