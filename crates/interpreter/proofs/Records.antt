-- The motors of a bench are the records of their histories: what the ten steps make of fresh ones over the scans that the lines entered. Assumes
-- nothing.
use Rattle.std.proofs.Common.{ℕ, ◌≡◌, refl, ap, ◌∙◌, List, [], ◌∷◌, map}
use mathlib.Core.List.{map-append}
use Rattle.rules.specs.declared.Motor.{Motor}
use Rattle.rules.specs.Steps.{step}
use Rattle.rules.specs.Refusals.{step_all}
use Rattle.rules.proofs.Tables.{table_accepted}
use Rattle.book.specs.History.{record_of}
use Rattle.sheet.specs.declared.Request.{Request}
use Rattle.sheet.specs.declared.Request.TheVariants.{Motor as M, Input as I, Scan as S, Refused}
use Rattle.interpreter.specs.State.{State, with_motor, with_words, with_word, scan_refusal, with_scan, refusal_for, changed}
use Rattle.interpreter.specs.Histories.{History, entered, histories_after}

abbrev pub record_in : History → Motor
record_in g = record_of g.settings g.scans

-- one scan more
steps_entered : (hs : List History) (words : List ℕ) (period : ℕ) → step_all (map record_in hs) words period ≡ map record_in (entered hs words period)
unfolding step_all entered record_of
steps_entered [] words period = refl
steps_entered (g ∷ hs) [] period = refl
steps_entered (g ∷ hs) (word ∷ words) period = ap (λ (l : List Motor). step (record_in g) word period ∷ l) (steps_entered hs words period)

-- An accepted request keeps it so.
pub records_on : (hs : List History) (t : State) (r : Request) → refusal_for t r ≡ 0 → t.motors ≡ map record_in hs
    → (changed t r).motors ≡ map record_in (histories_after hs t r)
unfolding refusal_for scan_refusal changed with_motor with_word with_words with_scan histories_after record_of
records_on hs t (M number ops1 ops2 w u) h e = rw (e, map-append record_in hs)
records_on hs t (I number word) h e = e
records_on hs t (S period) h e = table_accepted t.motors t.words period h ∙ rw e (steps_entered hs t.words period)
records_on hs t Refused h e = e
