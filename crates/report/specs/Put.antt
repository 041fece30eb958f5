-- Bytes put into a lent buffer from a place on. Those that find no room are lost, and all other bytes of the buffer stay.
use Rattle.std.specs.Prelude.{ℕ, ◌+◌, min, max, ◌≡◌, List, length}
use Rattle.std.proofs.lemmas.List.Edits.{sets}

-- The buffer with the bytes stored one after another
abbrev pub stored : List ℕ → ℕ → List ℕ → List ℕ
stored buffer at bytes = sets buffer at bytes

-- The place after the last byte that found room
abbrev pub place_after : List ℕ → ℕ → List ℕ → ℕ
place_after buffer at bytes = max at (min (at + length bytes) (length buffer))

-- What a function that puts these bytes at a place leaves in the buffer, and answers
pub record Put (buffer : List ℕ) (at : ℕ) (bytes after : List ℕ) (next : ℕ) : Type 0 where
  pub list : after ≡ stored buffer at bytes
  pub place : next ≡ place_after buffer at bytes
