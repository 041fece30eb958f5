-- The requests that lines make if words are decimal alone. No function uses them: rule 7.4 says of which files they are the requests too
-- (print/specs/DecimalWords.antt).
use Rattle.std.specs.Prelude.{ℕ, Bool, false, ◌||◌, List, map}
use Rattle.words.specs.Word.{when◌then◌else◌}
use Rattle.octets.specs.Split.{field_of}
use Rattle.sheet.specs.Lines.{Text, line, faulty, lines_of}
use Rattle.sheet.specs.WordField.{has0x}
use Rattle.sheet.specs.Grammar.{letter_m, letter_i, letter_s, is_kind, number_in, motor_from, input_from, scan_from}
use Rattle.sheet.specs.declared.Request.{Request}
use Rattle.sheet.specs.declared.Request.TheVariants.{Refused}

-- `M,number,OPS_1,OPS_2,W,U`
unfoldable pub decimal_motor : List ℕ → Request
decimal_motor l = motor_from (number_in l 1) (number_in l 2) (number_in l 3) (number_in l 4) (number_in l 5)

-- `I,number,word`
unfoldable pub decimal_input : List ℕ → Request
decimal_input l = input_from (number_in l 1) (number_in l 2)

-- `S,period`
unfoldable pub decimal_scan : List ℕ → Request
decimal_scan l = scan_from (number_in l 1)

unfoldable pub decimal_request : List ℕ → Request
decimal_request l =
    when is_kind letter_m 6 l then decimal_motor l
    else when is_kind letter_i 3 l then decimal_input l
    else when is_kind letter_s 2 l then decimal_scan l
    else Refused

-- The requests of a file, one a line
unfoldable pub decimal_text : Text → Request
decimal_text (line l) = decimal_request l
decimal_text faulty = Refused

unfoldable pub decimal_requests : List ℕ → List Request
decimal_requests file = map decimal_text (lines_of file)

-- A word field of the line begins with 0x
unfoldable pub line_has0x : List ℕ → Bool
line_has0x l =
    when is_kind letter_m 6 l then has0x (field_of l 2) || has0x (field_of l 3)
    else when is_kind letter_i 3 l then has0x (field_of l 2)
    else false

unfoldable pub text_has0x : Text → Bool
text_has0x (line l) = line_has0x l
text_has0x faulty = false
