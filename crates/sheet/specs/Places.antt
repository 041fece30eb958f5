-- Bytes and numbers where they stand in a file: what the functions promise that read a line once. The requests that they give are those
-- of `next_at`; nothing here says more of the file.
use Rattle.std.specs.Prelude.{ℕ, ◌+◌, ◌-◌, ◌≤◌, ◌≡◌, Bool, true, ◌&&◌, List, length, drop, get_or, eqb, leb, ltb, Option, Some, None, IfSome}
use Rattle.std.specs.Bool.{then_some}
use Rattle.words.specs.Word.{when◌then◌else◌}
use Rattle.octets.specs.Split.{LF, comma, between}
use Rattle.sheet.specs.Lines.{longest}
use Rattle.octets.specs.Runs.{run_of}
use Rattle.octets.specs.Number.{is_digit, value_from, largest, number_of}
use Rattle.sheet.specs.WordField.{is_hex_digit, hex_digit, hex_from, is_hex_count}
use Rattle.sheet.specs.Grammar.{letter_i, next_at}
use Rattle.sheet.specs.declared.Request.{Request}

-- A place has a byte, or a digit
unfoldable pub is_at : List ℕ → ℕ → ℕ → Bool
is_at file at b = ltb at (length file) && eqb (get_or file at 0) b

unfoldable pub is_digit_at : List ℕ → ℕ → Bool
is_digit_at file at = ltb at (length file) && is_digit (get_or file at 0)

-- The digits with which bytes begin
abbrev pub digit_run : List ℕ → List ℕ
digit_run bytes = run_of is_digit bytes

abbrev pub hex_run : List ℕ → List ℕ
hex_run bytes = run_of is_hex_digit bytes

-- The number with which the bytes from a place on begin, and the place after it. A 0 is read alone, so that none leads.
unfoldable pub number_at : List ℕ → ℕ → Option (ℕ × ℕ)
number_at file at =
    let run = digit_run (drop at file) in
    when is_at file at 48 then Some (0, at + 1)
    else then_some (ltb 0 (length run) && leb (value_from 0 run) largest) (value_from 0 run, at + length run)

-- The value of the hexadecimal digit at a place
unfoldable pub hex_digit_at : List ℕ → ℕ → Option ℕ
hex_digit_at file at = then_some (ltb at (length file) && is_hex_digit (get_or file at 0)) (hex_digit (get_or file at 0))

-- What the hexadecimal digits from a place on say, and the place after them, if they are as many as a word may have
unfoldable pub hex_run_at : List ℕ → ℕ → Option (ℕ × ℕ)
hex_run_at file at =
    let run = hex_run (drop at file) in
    then_some (is_hex_count (length run)) (hex_from 0 run, at + length run)

-- A letter, alone in its field, and a comma after it
unfoldable pub begins_with : List ℕ → ℕ → ℕ → Bool
begins_with file at letter = is_at file at letter && is_at file (at + 1) comma

-- An LF at `end`, no further from `at` than a line may be long
unfoldable pub ends_line : List ℕ → ℕ → ℕ → Bool
ends_line file at end = is_at file end LF && leb (end - at) longest

-- The bytes between two places say this value, by the meaning of a field: `number_of` or `word_of`
pub record SaidAt (meaning : List ℕ → Option ℕ) (file : List ℕ) (at value end : ℕ) : Type 0 where
  pub within : end ≤ length file
  pub says : meaning (between at end file) ≡ Some value

-- What a reading tells; nothing read tells nothing
unfoldable pub Read : (List ℕ → Option ℕ) → List ℕ → ℕ → Option (ℕ × ℕ) → Type 0
Read meaning file at (Some (value, end)) = SaidAt meaning file at value end
Read meaning file at None = Unit {0}

-- An I line as far as its number is read: up to the comma at `parting`
pub record NumberRead (file : List ℕ) (at number parting : ℕ) : Type 0 where
  pub begins : begins_with file at letter_i ≡ true
  pub number_said : SaidAt number_of file (at + 2) number parting
  pub parted : is_at file parting comma ≡ true

-- What is read of a line where it stands is the next request; nothing read tells nothing
abbrev pub ReadsNext : List ℕ → ℕ → Option (Request × ℕ) → Type 0
ReadsNext file at read = IfSome read (λ r. next_at file at ≡ Some r)
