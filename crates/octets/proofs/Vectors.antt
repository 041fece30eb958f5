-- The traps of the search for LF, by computing: which bytes the test of a word takes for LF. Assumes nothing.
use Prim.Native.Nat.{ℕ, ◌+◌, ◌*◌}
use mathlib.Core.Path.{◌≡◌, refl}
use mathlib.Core.List.{List, [], ◌∷◌}
use lib.ListN.{replicate}
use Rattle.octets.specs.Split.{LF}
use Rattle.octets.specs.WordBytes.{bytes_of}
use Rattle.octets.proofs.WordLaws.{each_byte, marks}

-- eight bytes as one word, the first the lowest
word : List ℕ → ℕ
word [] = 0
word (b ∷ bs) = word bs * 256 + b

-- what the test makes of each byte: 127 where it takes it for LF, otherwise 255
marked : List ℕ → List ℕ
marked bs = bytes_of 8 (marks (each_byte 8 LF) (each_byte 8 127) (word bs))

-- 0x0B after LF, and before it
lf_and_next : marked (10 ∷ 11 ∷ 10 ∷ 11 ∷ 11 ∷ 11 ∷ 11 ∷ 10 ∷ []) ≡ 127 ∷ 255 ∷ 127 ∷ 255 ∷ 255 ∷ 255 ∷ 255 ∷ 127 ∷ []
unfolding marked word each_byte bytes_of
lf_and_next = refl

-- 0x8A, which is LF but for its highest bit, beside LF
lf_with_high_bit : marked (138 ∷ 138 ∷ 138 ∷ 10 ∷ 138 ∷ 138 ∷ 138 ∷ 138 ∷ []) ≡ 255 ∷ 255 ∷ 255 ∷ 127 ∷ 255 ∷ 255 ∷ 255 ∷ 255 ∷ []
unfolding marked word each_byte bytes_of
lf_with_high_bit = refl

-- 0xFF and 0, which carry and borrow most, around LF and around its neighbours 9 and 11
carries : marked (255 ∷ 10 ∷ 255 ∷ 9 ∷ 255 ∷ 11 ∷ 0 ∷ 10 ∷ []) ≡ 255 ∷ 127 ∷ 255 ∷ 255 ∷ 255 ∷ 255 ∷ 255 ∷ 127 ∷ []
unfolding marked word each_byte bytes_of
carries = refl

-- bytes that differ from LF in one bit each
one_bit_off : marked (11 ∷ 8 ∷ 14 ∷ 2 ∷ 26 ∷ 42 ∷ 74 ∷ 138 ∷ []) ≡ replicate 8 255
unfolding marked word each_byte bytes_of
one_bit_off = refl
