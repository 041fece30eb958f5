-- The number that a field says: rule 7.3.
use Rattle.std.specs.Prelude.{ℕ, ◌+◌, ◌-◌, ◌*◌, Bool, ◌&&◌, ◌||◌, List, [], ◌∷◌, length, get_or, eqb, leb, ltb, Option, None}
use Rattle.std.specs.Bool.{then_some}
use Rattle.std.specs.List.{list_all}
use Rattle.words.specs.Word.{when◌then◌else◌}

-- The bytes 48 to 57 are the digits 0 to 9.
unfoldable pub is_digit : ℕ → Bool
is_digit b = leb 48 b && leb b 57

-- digits alone: no sign, nor any other byte
abbrev pub all_digits : List ℕ → Bool
all_digits field = list_all is_digit field

-- What digits say, read on from the value v of those before them
unfoldable pub value_from : ℕ → List ℕ → ℕ
value_from v [] = v
value_from v (b ∷ bs) = value_from (v * 10 + (b - 48)) bs

-- the largest that is read
abbrev pub largest : ℕ
largest = 4294967295

-- The number that digits say, with any zeros in front
unfoldable pub digits_number : List ℕ → Option ℕ
digits_number field = then_some (all_digits field && leb (value_from 0 field) largest) (value_from 0 field)

-- a 0 that other bytes follow
unfoldable pub leading_zero : List ℕ → Bool
leading_zero field = eqb (get_or field 0 0) 48 && ltb 1 (length field)

-- A field's number; an empty field says none
unfoldable pub number_of : List ℕ → Option ℕ
number_of field = when eqb (length field) 0 || leading_zero field then None else digits_number field
