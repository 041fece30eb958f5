-- Words of 32 bits. The definitions are quotients and remainders, so that they compute on numerals; that shift and mask give the same
-- is proved in proofs/Laws.antt.
use Rattle.std.specs.Prelude.{ℕ, ◌+◌, ◌-◌, ◌*◌, ◌/◌, ◌%◌, ◌^◌, Bool, true, false, not, ◌&&◌, eqb, ltb}
use Rattle.std.specs.Int.Bits.{bit_and}

infixr 10 when◌then◌else◌
-- one of two, by a test
unfoldable pub when◌then◌else◌ {ℓ} : {A : Type ℓ} → Bool → A → A → A
when◌then◌else◌ true a b = a
when◌then◌else◌ false a b = b

-- bit k of a word, 0 or 1
unfoldable pub bit_of : ℕ → ℕ → ℕ
bit_of k w = w / 2 ^ k % 2

-- bit k of a word is 1
unfoldable pub is_set : ℕ → ℕ → Bool
is_set k w = eqb (bit_of k w) 1

-- a word and not a mask
unfoldable pub without : ℕ → ℕ → ℕ
without mask w = bit_and w (2 ^ 32 - 1 - mask)

-- a word with the n bits from bit k on cleared
unfoldable pub without_bits : ℕ → ℕ → ℕ → ℕ
without_bits k n w = w - w / 2 ^ k % 2 ^ n * 2 ^ k

-- a word with bit k cleared
unfoldable pub without_bit : ℕ → ℕ → ℕ
without_bit k w = without_bits k 1 w

-- a word with bit k set; a bit that a word does not have cannot be set
unfoldable pub with_bit : ℕ → ℕ → ℕ
with_bit k w = when ltb k 32 then w + (1 - bit_of k w) * 2 ^ k else w
