-- The prints of whole files, by computing; and what reading with numbers alone made of words in hexadecimal.
use Prim.Native.Nat.{ℕ}
use mathlib.Core.Path.{◌≡◌, refl}
use mathlib.Core.Bool.{true, false}
use mathlib.Core.List.{List, [], ◌∷◌}
use Rattle.rules.specs.Opened.{opened as rules-opened}
use Rattle.sheet.specs.Opened.{opened as sheet-opened}
use Rattle.sheet.proofs.Vectors.{first_file}
use Rattle.totals.specs.Opened.{opened as totals-opened}
use Rattle.report.specs.Opened.{opened as report-opened}
use Rattle.interpreter.specs.Opened.{opened as interpreter-opened}
use Rattle.print.specs.DecimalWords.{decimal_print, no0x_read, decimal_accepted}
use Rattle.print.specs.Opened.{opened}
use Rattle.print.specs.Sheets.{text, sheet, AreRight, given_prints, full, full_rows, own_prints}

pub given_right : AreRight given_prints
unfolding opened interpreter-opened rules-opened totals-opened sheet-opened report-opened text sheet given_prints
given_right = refl

pub own_right : AreRight own_prints
unfolding opened interpreter-opened rules-opened totals-opened sheet-opened report-opened text sheet full full_rows own_prints
own_right = refl

-- the first file in hexadecimal, whose first line reading with numbers alone refused
hex_file : List ℕ
hex_file = text ("M,1,0xC1,0x00,500,300" ∷ "I,1,0x20" ∷ "S,100" ∷ "I,1,0x00001020" ∷ "S,100" ∷ "I,1,16" ∷ "S,100" ∷ [])

before : (decimal_print hex_file ≡ text ("E,1,5" ∷ [])) × (no0x_read hex_file ≡ false) × (decimal_accepted first_file ≡ true)
unfolding opened interpreter-opened rules-opened totals-opened sheet-opened report-opened text first_file hex_file
before = (refl, refl, refl)

-- a word in hexadecimal after the line that is refused is not read
behind : no0x_read (text ("M,2,193,0,500,300" ∷ "M,1,0xC1,0,500,300" ∷ [])) ≡ true
unfolding opened interpreter-opened rules-opened totals-opened sheet-opened report-opened text
behind = refl
