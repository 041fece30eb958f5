-- The lines of the print: rules 8.1 to 8.3. Numbers are printed in decimal.
use Rattle.std.specs.Prelude.{ℕ, zero, suc, ◌+◌, ◌/◌, ◌%◌, List, [], ◌∷◌, ◌++◌, ltb}
use Rattle.words.specs.Word.{when◌then◌else◌}
use Rattle.octets.specs.Split.{LF, comma}
use Rattle.report.specs.declared.Row.{Row}
use Rattle.report.specs.declared.TotalsRow.{TotalsRow}

-- The decimal digits of a number below 10 ^ k, k at least 1, without a leading zero
unfoldable pub digits_of : ℕ → ℕ → List ℕ
digits_of zero n = []
digits_of (suc k) n = when ltb n 10 then (48 + n) ∷ [] else digits_of k (n / 10) ++ ((48 + n % 10) ∷ [])

-- A number of 32 bits has at most ten digits.
unfoldable pub decimal : ℕ → List ℕ
decimal n = digits_of 10 n

-- Numbers, each after a comma, up to the LF
unfoldable pub after_comma : ℕ → List ℕ
after_comma n = comma ∷ decimal n

unfoldable pub after_commas : List ℕ → List ℕ
after_commas [] = LF ∷ []
after_commas (n ∷ ns) = after_comma n ++ after_commas ns

-- A line of a letter and numbers
unfoldable pub line_of : ℕ → List ℕ → List ℕ
line_of letter numbers = letter ∷ after_commas numbers

abbrev pub letter_r : ℕ
letter_r = 82

abbrev pub letter_e : ℕ
letter_e = 69

abbrev pub letter_t : ℕ
letter_t = 84

-- `R,scan,number,mode,position,command,end,output,flags`
unfoldable pub row_of : Row → List ℕ
row_of r = line_of letter_r (r.scan ∷ r.number ∷ r.mode ∷ r.position ∷ r.command ∷ r.end ∷ r.output ∷ r.flags ∷ [])

-- `T,number,issued,confirmed,displaced,overdue,under way,on,best,worst`
unfoldable pub totals_row_of : TotalsRow → List ℕ
totals_row_of r =
    line_of letter_t (r.number ∷ r.issued ∷ r.confirmed ∷ r.displaced ∷ r.overdue ∷ r.underway ∷ r.on ∷ r.best ∷ r.worst ∷ [])

-- `E,line,refusal`
unfoldable pub refusal_of : ℕ → ℕ → List ℕ
refusal_of line refusal = line_of letter_e (line ∷ refusal ∷ [])
