-- The numbers of the refusals: rule 4.2.
use Rattle.std.specs.Prelude.{ℕ, Result, Ok, Err}
use Rattle.refusals.specs.declared.Refusal.{Refusal}
use Rattle.refusals.specs.declared.Refusal.TheVariants.{Size, Period, Word, Setting, Line, Record, Full, Scanned, Number, Absent}

abbrev pub number_of : Refusal → ℕ
number_of Size = 1
number_of Period = 2
number_of Word = 3
number_of Setting = 4
number_of Line = 5
number_of Record = 6
number_of Full = 7
number_of Scanned = 8
number_of Number = 9
number_of Absent = 10

-- what is accepted has the number 0
abbrev pub code_of : {T : Type 0} → Result T Refusal → ℕ
code_of (Ok value) = 0
code_of (Err refusal) = number_of refusal
