-- The lines of a file: rule 7.1.
use Rattle.std.specs.Prelude.{ℕ, ◌+◌, Bool, ◌&&◌, List, [], ◌∷◌, length, drop, eqb, leb, ltb}
use Rattle.words.specs.Word.{when◌then◌else◌}
use Rattle.octets.specs.Split.{LF, split}
use Rattle.sheet.specs.declared.Line.{Line}
use Rattle.sheet.specs.declared.Line.TheVariants.{Until, Refused, End}

-- How many bytes a line may have without LF
abbrev pub longest : ℕ
longest = 80

-- A line that can be read on, or one that 5 refuses
pub data Text : Type 0 where
  line : List ℕ → Text
  faulty : Text

-- neither empty nor too long
unfoldable pub well_sized : ℕ → Bool
well_sized n = ltb 0 n && leb n longest

-- What stands before an LF
unfoldable pub text_of : List ℕ → Text
text_of l = when well_sized (length l) then line l else faulty

-- Every part but the last is a line. What follows the last LF is none if it is empty, and otherwise a line without LF.
unfoldable pub texts_of : List (List ℕ) → List Text
texts_of [] = []
texts_of (last ∷ []) = when eqb (length last) 0 then [] else faulty ∷ []
texts_of (l ∷ m ∷ rest) = text_of l ∷ texts_of (m ∷ rest)

-- The lines of a file
unfoldable pub lines_of : List ℕ → List Text
lines_of file = texts_of (split LF file)

-- The line that begins at a place: the place of its LF, or its refusal; or that the file ends there
unfoldable pub first_line : ℕ → List Text → Line
first_line at [] = End
first_line at (line l ∷ rest) = Until (at + length l)
first_line at (faulty ∷ rest) = Refused

unfoldable pub line_at : List ℕ → ℕ → Line
line_at file at = first_line at (lines_of (drop at file))
