-- A list of bytes, parted at a byte: the lines of a file at LF, rule 7.1, the fields of a line at commas, rule 7.2.
use Rattle.std.specs.Prelude.{ℕ, suc, ◌+◌, ◌-◌, List, [], ◌∷◌, ◌++◌, length, take, drop, get_or, eqb, ltb, Option}
use Rattle.std.specs.Bool.{then_some}
use Rattle.words.specs.Word.{when◌then◌else◌}

-- The bytes LF and comma
abbrev pub LF : ℕ
LF = 10

abbrev pub comma : ℕ
comma = 44

-- one byte more in front of the first part
unfoldable pub join_first : ℕ → List (List ℕ) → List (List ℕ)
join_first x [] = (x ∷ []) ∷ []
join_first x (p ∷ ps) = (x ∷ p) ∷ ps

-- The parts between the bytes b, in order: one part more than there are b's
unfoldable pub split : ℕ → List ℕ → List (List ℕ)
split b [] = [] ∷ []
split b (x ∷ xs) = when eqb x b then [] ∷ split b xs else join_first x (split b xs)

-- The way back: the parts with a b between each two
unfoldable pub joined : ℕ → List (List ℕ) → List ℕ
joined b [] = []
joined b (p ∷ []) = p
joined b (p ∷ q ∷ ps) = p ++ b ∷ joined b (q ∷ ps)

-- How many bytes stand before the first b: all of them if there is none
unfoldable pub index_of : ℕ → List ℕ → ℕ
index_of b [] = 0
index_of b (x ∷ xs) = when eqb x b then 0 else suc (index_of b xs)

-- The first b at or after a place, or none
unfoldable pub found_byte : List ℕ → ℕ → ℕ → Option ℕ
found_byte file at b =
    let i = at + index_of b (drop at file) in
    then_some (ltb i (length file)) i

-- The first LF at or after a place, or none
abbrev pub found_lf : List ℕ → ℕ → Option ℕ
found_lf file at = found_byte file at LF

-- The bytes from one place up to another, as many as there are
unfoldable pub between : ℕ → ℕ → List ℕ → List ℕ
between from to xs = take (to - from) (drop from xs)

-- A field of a line. Fields are numbered from 0; one that a line does not have is empty.
unfoldable pub field_of : List ℕ → ℕ → List ℕ
field_of line k = get_or (split comma line) k []

unfoldable pub field_count : List ℕ → ℕ
field_count line = length (split comma line)
