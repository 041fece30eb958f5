-- The file of sheets/first.txt, the borders of refusal 5, words in both notations, by computing. Assumes nothing.
use Prim.Native.Nat.{ℕ}
use mathlib.Core.Path.{◌≡◌, refl}
use mathlib.Core.List.{List, [], ◌∷◌, ◌++◌}
use lib.ListN.{replicate}
use Rattle.octets.specs.Number.{number_of}
use Rattle.sheet.specs.WordField.{word_of}
use Rattle.sheet.specs.Lines.{line_at}
use Rattle.sheet.specs.Grammar.{request_of, requests_of}
use Rattle.sheet.specs.Opened.{opened}
use Rattle.sheet.specs.declared.Line.TheVariants.{Until, Refused as Faulty}
use Rattle.std.specs.Prelude.{Some, None}
use Rattle.sheet.specs.declared.Request.TheVariants.{Motor, Input, Scan, Refused}

-- M,1,193,0,500,300, I,1,32, S,100, I,1,4128, S,100, I,1,16, S,100
unfoldable pub first_file : List ℕ
first_file =
    77 ∷ 44 ∷ 49 ∷ 44 ∷ 49 ∷ 57 ∷ 51 ∷ 44 ∷ 48 ∷ 44 ∷ 53 ∷ 48 ∷ 48 ∷ 44 ∷ 51 ∷ 48 ∷ 48 ∷ 10 ∷
    73 ∷ 44 ∷ 49 ∷ 44 ∷ 51 ∷ 50 ∷ 10 ∷
    83 ∷ 44 ∷ 49 ∷ 48 ∷ 48 ∷ 10 ∷
    73 ∷ 44 ∷ 49 ∷ 44 ∷ 52 ∷ 49 ∷ 50 ∷ 56 ∷ 10 ∷
    83 ∷ 44 ∷ 49 ∷ 48 ∷ 48 ∷ 10 ∷
    73 ∷ 44 ∷ 49 ∷ 44 ∷ 49 ∷ 54 ∷ 10 ∷
    83 ∷ 44 ∷ 49 ∷ 48 ∷ 48 ∷ 10 ∷
    []

first_read : requests_of first_file
    ≡ Motor 1 193 0 500 300 ∷ Input 1 32 ∷ Scan 100 ∷ Input 1 4128 ∷ Scan 100 ∷ Input 1 16 ∷ Scan 100 ∷ []
unfolding opened first_file
first_read = refl

-- An empty file has no lines; an empty line, and a line that lacks its LF, are refused
no_lines : requests_of [] ≡ []
unfolding opened
no_lines = refl

empty_line : requests_of (10 ∷ []) ≡ Refused ∷ []
unfolding opened
empty_line = refl

no_end : requests_of (83 ∷ 44 ∷ 49 ∷ []) ≡ Refused ∷ []
unfolding opened
no_end = refl

-- A line of 80 bytes is a line, one of 81 is refused
longest_line : line_at (replicate 80 49 ++ 10 ∷ []) 0 ≡ Until 80
unfolding opened
longest_line = refl

too_long : line_at (replicate 81 49 ++ 10 ∷ []) 0 ≡ Faulty
unfolding opened
too_long = refl

-- 4294967295, 4294967296 and 24 digits; 0, 00 and 01; +1 and an empty field
largest_number : number_of (52 ∷ 50 ∷ 57 ∷ 52 ∷ 57 ∷ 54 ∷ 55 ∷ 50 ∷ 57 ∷ 53 ∷ []) ≡ Some 4294967295
unfolding opened
largest_number = refl

one_more : number_of (52 ∷ 50 ∷ 57 ∷ 52 ∷ 57 ∷ 54 ∷ 55 ∷ 50 ∷ 57 ∷ 54 ∷ []) ≡ None
unfolding opened
one_more = refl

many_digits : number_of (57 ∷ 57 ∷ 57 ∷ 57 ∷ 57 ∷ 57 ∷ 57 ∷ 57 ∷ 57 ∷ 57 ∷ 57 ∷ 57 ∷ 57 ∷ 57 ∷ 57 ∷ 57 ∷ 57 ∷ 57 ∷ 57 ∷ 57 ∷ 57 ∷ 57 ∷ 57 ∷ 57 ∷ []) ≡ None
unfolding opened
many_digits = refl

zero_itself : number_of (48 ∷ []) ≡ Some 0
unfolding opened
zero_itself = refl

two_zeros : number_of (48 ∷ 48 ∷ []) ≡ None
unfolding opened
two_zeros = refl

leading_zero_lem : number_of (48 ∷ 49 ∷ []) ≡ None
unfolding opened
leading_zero_lem = refl

sign : number_of (43 ∷ 49 ∷ []) ≡ None
unfolding opened
sign = refl

no_digit : number_of ([]) ≡ None
unfolding opened
no_digit = refl

-- S,1, and S; s,1 and SS,1
field_more : request_of (83 ∷ 44 ∷ 49 ∷ 44 ∷ []) ≡ Refused
unfolding opened
field_more = refl

field_less : request_of (83 ∷ []) ≡ Refused
unfolding opened
field_less = refl

unknown : request_of (115 ∷ 44 ∷ 49 ∷ []) ≡ Refused
unfolding opened
unknown = refl

two_letters : request_of (83 ∷ 83 ∷ 44 ∷ 49 ∷ []) ≡ Refused
unfolding opened
two_letters = refl

-- ---- words: 0x0, 0x1F, 0xABCDEF, 0xFFFFFFFF, and 193 in all eight digits; 193 and 0 without 0x
hex_zero : word_of (48 ∷ 120 ∷ 48 ∷ []) ≡ Some 0
unfolding opened
hex_zero = refl

hex_two : word_of (48 ∷ 120 ∷ 49 ∷ 70 ∷ []) ≡ Some 31
unfolding opened
hex_two = refl

hex_letters : word_of (48 ∷ 120 ∷ 65 ∷ 66 ∷ 67 ∷ 68 ∷ 69 ∷ 70 ∷ []) ≡ Some 11259375
unfolding opened
hex_letters = refl

hex_largest : word_of (48 ∷ 120 ∷ 70 ∷ 70 ∷ 70 ∷ 70 ∷ 70 ∷ 70 ∷ 70 ∷ 70 ∷ []) ≡ Some 4294967295
unfolding opened
hex_largest = refl

hex_zeros : word_of (48 ∷ 120 ∷ 48 ∷ 48 ∷ 48 ∷ 48 ∷ 48 ∷ 48 ∷ 67 ∷ 49 ∷ []) ≡ Some 193
unfolding opened
hex_zeros = refl

word_decimal : word_of (49 ∷ 57 ∷ 51 ∷ []) ≡ Some 193
unfolding opened
word_decimal = refl

word_zero : word_of (48 ∷ []) ≡ Some 0
unfolding opened
word_zero = refl

-- nine digits, none, a small letter, a large X
hex_nine : word_of (48 ∷ 120 ∷ 48 ∷ 48 ∷ 48 ∷ 48 ∷ 48 ∷ 48 ∷ 48 ∷ 67 ∷ 49 ∷ []) ≡ None
unfolding opened
hex_nine = refl

hex_none : word_of (48 ∷ 120 ∷ []) ≡ None
unfolding opened
hex_none = refl

hex_small : word_of (48 ∷ 120 ∷ 99 ∷ 49 ∷ []) ≡ None
unfolding opened
hex_small = refl

hex_large_x : word_of (48 ∷ 88 ∷ 67 ∷ 49 ∷ []) ≡ None
unfolding opened
hex_large_x = refl

-- the bytes beside A to F and 0 to 9: 0x@, 0xG, 0x/ and 0x:
hex_at : word_of (48 ∷ 120 ∷ 64 ∷ []) ≡ None
unfolding opened
hex_at = refl

hex_g : word_of (48 ∷ 120 ∷ 71 ∷ []) ≡ None
unfolding opened
hex_g = refl

hex_slash : word_of (48 ∷ 120 ∷ 47 ∷ []) ≡ None
unfolding opened
hex_slash = refl

hex_colon : word_of (48 ∷ 120 ∷ 58 ∷ []) ≡ None
unfolding opened
hex_colon = refl

-- +0xC1, 0x+1, a blank behind, 0x0xC1 and 00xC1
hex_sign : word_of (43 ∷ 48 ∷ 120 ∷ 67 ∷ 49 ∷ []) ≡ None
unfolding opened
hex_sign = refl

hex_sign_inside : word_of (48 ∷ 120 ∷ 43 ∷ 49 ∷ []) ≡ None
unfolding opened
hex_sign_inside = refl

hex_blank : word_of (48 ∷ 120 ∷ 67 ∷ 49 ∷ 32 ∷ []) ≡ None
unfolding opened
hex_blank = refl

hex_twice : word_of (48 ∷ 120 ∷ 48 ∷ 120 ∷ 67 ∷ 49 ∷ []) ≡ None
unfolding opened
hex_twice = refl

hex_zero_first : word_of (48 ∷ 48 ∷ 120 ∷ 67 ∷ 49 ∷ []) ≡ None
unfolding opened
hex_zero_first = refl

-- M,1,0xC1,0x1F,500,300 and I,1,0x20; but M,0x1,.., a W and a U of 0x1F, I,0x1,32 and S,0x64 make no request
hex_motor : request_of (77 ∷ 44 ∷ 49 ∷ 44 ∷ 48 ∷ 120 ∷ 67 ∷ 49 ∷ 44 ∷ 48 ∷ 120 ∷ 49 ∷ 70 ∷ 44 ∷ 53 ∷ 48 ∷ 48 ∷ 44 ∷ 51 ∷ 48 ∷ 48 ∷ []) ≡ Motor 1 193 31 500 300
unfolding opened
hex_motor = refl

hex_input : request_of (73 ∷ 44 ∷ 49 ∷ 44 ∷ 48 ∷ 120 ∷ 50 ∷ 48 ∷ []) ≡ Input 1 32
unfolding opened
hex_input = refl

hex_number_lem : request_of (77 ∷ 44 ∷ 48 ∷ 120 ∷ 49 ∷ 44 ∷ 48 ∷ 120 ∷ 67 ∷ 49 ∷ 44 ∷ 48 ∷ 120 ∷ 49 ∷ 70 ∷ 44 ∷ 53 ∷ 48 ∷ 48 ∷ 44 ∷ 51 ∷ 48 ∷ 48 ∷ []) ≡ Refused
unfolding opened
hex_number_lem = refl

hex_w : request_of (77 ∷ 44 ∷ 49 ∷ 44 ∷ 49 ∷ 57 ∷ 51 ∷ 44 ∷ 48 ∷ 44 ∷ 48 ∷ 120 ∷ 49 ∷ 70 ∷ 44 ∷ 51 ∷ 48 ∷ 48 ∷ []) ≡ Refused
unfolding opened
hex_w = refl

hex_u : request_of (77 ∷ 44 ∷ 49 ∷ 44 ∷ 49 ∷ 57 ∷ 51 ∷ 44 ∷ 48 ∷ 44 ∷ 53 ∷ 48 ∷ 48 ∷ 44 ∷ 48 ∷ 120 ∷ 49 ∷ 70 ∷ []) ≡ Refused
unfolding opened
hex_u = refl

hex_input_number : request_of (73 ∷ 44 ∷ 48 ∷ 120 ∷ 49 ∷ 44 ∷ 51 ∷ 50 ∷ []) ≡ Refused
unfolding opened
hex_input_number = refl

hex_period : request_of (83 ∷ 44 ∷ 48 ∷ 120 ∷ 54 ∷ 52 ∷ []) ≡ Refused
unfolding opened
hex_period = refl
