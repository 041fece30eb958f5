-- What a file prints if words are decimal alone: rule 7.4. The laws in proofs/DecimalPrint.antt: a file prints just that, if no line that is read
-- so has a word field that begins with 0x; and each file prints it of which every line, read so, is accepted.
use Rattle.std.specs.Prelude.{ℕ, Bool, true, false, List, [], ◌∷◌, eqb, length}
use Rattle.words.specs.Word.{when◌then◌else◌}
use Rattle.sheet.specs.Lines.{Text, lines_of}
use Rattle.sheet.specs.DecimalWords.{decimal_text, decimal_requests, text_has0x}
use Rattle.report.specs.Print.{refusal_of}
use Rattle.interpreter.specs.State.{State, empty_state, refusal_for, changed, all_accepted, too_long}
use Rattle.print.specs.Print.{requests_print}

unfoldable pub decimal_print : List ℕ → List ℕ
decimal_print file = when too_long (length file) then refusal_of 0 1 else requests_print (decimal_requests file)

-- Lines read one after another, up to the first that is refused: none of them has such a field
unfoldable pub no0x_from : State → List Text → Bool
no0x_from t [] = true
no0x_from t (l ∷ ls) =
    when text_has0x l then false
    else when eqb (refusal_for t (decimal_text l)) 0 then no0x_from (changed t (decimal_text l)) ls
    else true

-- Of a file that is too long no line is read
unfoldable pub no0x_read : List ℕ → Bool
no0x_read file = when too_long (length file) then true else no0x_from empty_state (lines_of file)

-- Every line is accepted
unfoldable pub decimal_accepted : List ℕ → Bool
decimal_accepted file = all_accepted empty_state (decimal_requests file)
