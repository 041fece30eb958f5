-- The request that a line makes, and the requests of a whole file: rule 7.2, and refusal 5.
use Rattle.std.specs.Prelude.{ℕ, ◌+◌, Bool, ◌&&◌, List, [], ◌∷◌, map, length, get_or, eqb, Option, Some, None}
use Rattle.words.specs.Word.{when◌then◌else◌}
use Rattle.octets.specs.Split.{field_of, field_count, between}
use Rattle.sheet.specs.Lines.{Text, line, faulty, lines_of, line_at}
use Rattle.octets.specs.Number.{number_of}
use Rattle.sheet.specs.WordField.{word_of}
use Rattle.sheet.specs.declared.Line.{Line}
use Rattle.sheet.specs.declared.Line.TheVariants.{Until, Refused as Faulty, End}
use Rattle.sheet.specs.declared.Request.{Request}
use Rattle.sheet.specs.declared.Request.TheVariants.{Motor, Input, Scan, Refused}

-- The first field of a line of each kind: M, I, S
abbrev pub letter_m : ℕ
letter_m = 77

abbrev pub letter_i : ℕ
letter_i = 73

abbrev pub letter_s : ℕ
letter_s = 83

-- A line of a kind has its letter, and no more, for its first field, and its count of fields
unfoldable pub letter_of : List ℕ → ℕ
letter_of field = when eqb (length field) 1 then get_or field 0 0 else 0

unfoldable pub is_kind : ℕ → ℕ → List ℕ → Bool
is_kind letter count l = eqb (letter_of (field_of l 0)) letter && eqb (field_count l) count

-- The number that a field of a line says, and the word
unfoldable pub number_in : List ℕ → ℕ → Option ℕ
number_in l k = number_of (field_of l k)

unfoldable pub word_in : List ℕ → ℕ → Option ℕ
word_in l k = word_of (field_of l k)

-- What a number makes; a field that says none makes a refusal
unfoldable pub with_value : Option ℕ → (ℕ → Request) → Request
with_value (Some n) make = make n
with_value None make = Refused

-- The requests of the three kinds, by the numbers in their fields
unfoldable pub motor_from : Option ℕ → Option ℕ → Option ℕ → Option ℕ → Option ℕ → Request
motor_from a b c d e =
    with_value a (λ number. with_value b (λ ops1. with_value c (λ ops2. with_value d (λ w. with_value e (λ u. Motor number ops1 ops2 w u)))))

unfoldable pub input_from : Option ℕ → Option ℕ → Request
input_from a b = with_value a (λ number. with_value b (λ word. Input number word))

unfoldable pub scan_from : Option ℕ → Request
scan_from a = with_value a (λ period. Scan period)

-- `M,number,OPS_1,OPS_2,W,U`; OPS_1 and OPS_2 are words
unfoldable pub motor_of : List ℕ → Request
motor_of l = motor_from (number_in l 1) (word_in l 2) (word_in l 3) (number_in l 4) (number_in l 5)

-- `I,number,word`
unfoldable pub input_of : List ℕ → Request
input_of l = input_from (number_in l 1) (word_in l 2)

-- `S,period`
unfoldable pub scan_of : List ℕ → Request
scan_of l = scan_from (number_in l 1)

-- A line's request; one of no kind is refused
unfoldable pub request_of : List ℕ → Request
request_of l =
    when is_kind letter_m 6 l then motor_of l
    else when is_kind letter_i 3 l then input_of l
    else when is_kind letter_s 2 l then scan_of l
    else Refused

-- The requests of a file, one a line; the first is that of line 1
unfoldable pub text_request : Text → Request
text_request (line l) = request_of l
text_request faulty = Refused

unfoldable pub requests_of : List ℕ → List Request
requests_of file = map text_request (lines_of file)

-- The request at a place of a file, and the place after its line. A line that is empty, too long or without LF is refused, and is
-- the last: the place after it is the file's end.
unfoldable pub taken_at : List ℕ → ℕ → Line → Option (Request × ℕ)
taken_at file at (Until end) = Some (request_of (between at end file), end + 1)
taken_at file at Faulty = Some (Refused, length file)
taken_at file at End = None

unfoldable pub next_at : List ℕ → ℕ → Option (Request × ℕ)
next_at file at = taken_at file at (line_at file at)

-- The number of the refusal of a line that makes no request, and 0 for any other
unfoldable pub request_refusal : Request → ℕ
request_refusal (Motor number ops1 ops2 w u) = 0
request_refusal (Input number word) = 0
request_refusal (Scan period) = 0
request_refusal Refused = 5

-- The numbers of a request, in the order of the line's fields
unfoldable pub values_of : Request → List ℕ
values_of (Motor number ops1 ops2 w u) = number ∷ ops1 ∷ ops2 ∷ w ∷ u ∷ []
values_of (Input number word) = number ∷ word ∷ []
values_of (Scan period) = period ∷ []
values_of Refused = []
