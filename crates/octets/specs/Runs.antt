-- Bytes that pass a test, as digits do.
use Rattle.std.specs.Prelude.{ℕ, Bool, List, [], ◌∷◌}
use Rattle.words.specs.Word.{when◌then◌else◌}

-- The bytes that pass a test with which bytes begin, as many as there are
unfoldable pub run_of : (ℕ → Bool) → List ℕ → List ℕ
run_of test [] = []
run_of test (b ∷ bs) = when test b then b ∷ run_of test bs else []
