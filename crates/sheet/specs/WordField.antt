-- The word that a field says, rule 7.4: OPS_1 and OPS_2 of an M line, and the word of an I line. Other fields are numbers (Number.antt), and so is
-- a word without 0x.
use Rattle.std.specs.Prelude.{ℕ, zero, suc, ◌+◌, ◌-◌, ◌*◌, ◌/◌, ◌%◌, Bool, ◌&&◌, ◌||◌, List, [], ◌∷◌, ◌++◌, length, drop, get_or, eqb, leb, ltb, Option}
use Rattle.std.specs.Bool.{then_some}
use Rattle.std.specs.List.{list_all}
use Rattle.words.specs.Word.{when◌then◌else◌}
use Rattle.octets.specs.Number.{is_digit, number_of}

-- A hexadecimal digit: the bytes 48 to 57 are 0 to 9, and 65 to 70 are A to F
unfoldable pub is_hex_digit : ℕ → Bool
is_hex_digit b = is_digit b || (leb 65 b && leb b 70)

unfoldable pub hex_digit : ℕ → ℕ
hex_digit b = when is_digit b then b - 48 else b - 55

-- such digits alone: no small letter, sign or any other byte
abbrev pub all_hex_digits : List ℕ → Bool
all_hex_digits digits = list_all is_hex_digit digits

-- What hexadecimal digits say, read on from the value v of those before them
unfoldable pub hex_from : ℕ → List ℕ → ℕ
hex_from v [] = v
hex_from v (b ∷ bs) = hex_from (v * 16 + hex_digit b) bs

-- as many digits as a word may have
unfoldable pub is_hex_count : ℕ → Bool
is_hex_count n = leb 1 n && leb n 8

-- What stands after 0x
unfoldable pub hex_number : List ℕ → Option ℕ
hex_number digits = then_some (is_hex_count (length digits) && all_hex_digits digits) (hex_from 0 digits)

-- 0x: the bytes 48 and 120 come first
unfoldable pub has0x : List ℕ → Bool
has0x field = eqb (get_or field 0 0) 48 && eqb (get_or field 1 0) 120

-- A field's word
unfoldable pub word_of : List ℕ → Option ℕ
word_of field = when has0x field then hex_number (drop 2 field) else number_of field

-- The way back: the field that a wiring sheet prints for a word n, below 16 ^ k, in k digits. It says n, and no other field with 0x and k digits does
-- (proofs/HexBack.antt).
unfoldable pub hex_digit_of : ℕ → ℕ
hex_digit_of d = when ltb d 10 then 48 + d else 55 + d

unfoldable pub hex_digits_of : ℕ → ℕ → List ℕ
hex_digits_of zero n = []
hex_digits_of (suc k) n = hex_digits_of k (n / 16) ++ (hex_digit_of (n % 16) ∷ [])

unfoldable pub hexadecimal : ℕ → ℕ → List ℕ
hexadecimal k n = 48 ∷ 120 ∷ hex_digits_of k n
