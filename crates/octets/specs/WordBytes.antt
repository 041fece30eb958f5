-- The bytes of a word. The search for LF looks at eight bytes as one word.
use Rattle.std.specs.Prelude.{ℕ, zero, suc, ◌/◌, ◌%◌, Bool, false, ◌||◌, List, [], ◌∷◌, eqb}

-- The n lowest bytes of a word, the lowest first
unfoldable pub bytes_of : ℕ → ℕ → List ℕ
bytes_of zero w = []
bytes_of (suc n) w = w % 256 ∷ bytes_of n (w / 256)

-- Whether b is among some bytes
unfoldable pub contains : ℕ → List ℕ → Bool
contains b [] = false
contains b (x ∷ xs) = eqb x b || contains b xs
