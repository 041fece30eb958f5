-- Lists of scans as one motor meets them, what they make of its record, and its history. The scans are those of the contracts:
-- `one_after`, `one_refusal`, `table_after`, `table_refusal` of rules/specs/Refusals.antt.
use Rattle.std.specs.Prelude.{ℕ, Bool, true, false, ◌&&◌, List, ◌∷◌, ◌++◌, eqb, length, get_or}
use Rattle.words.specs.Word.{when◌then◌else◌}
use Rattle.rules.specs.declared.Settings.{Settings}
use Rattle.rules.specs.declared.Motor.{Motor}
use Rattle.rules.specs.Record.{fresh}
use Rattle.rules.specs.Steps.{step}
use Rattle.rules.specs.Refusals.{one_refusal, one_after, table_refusal, table_after}
use Rattle.rules.specs.Scans.{Input}
use Rattle.book.specs.Log.{Log, none, ◌▸◌}

-- What a motor may meet: rule 5.1
pub data Entry : Type 0 where
  -- a table scan with this motor: the records before and behind its own, the words, the period
  table : List Motor → List Motor → List ℕ → ℕ → Entry
  -- a scan of this motor alone: the word, the period
  single : ℕ → ℕ → Entry
  -- a table scan without this motor
  other_table : List Motor → List ℕ → ℕ → Entry
  -- a scan of another motor alone
  other_single : Motor → ℕ → ℕ → Entry

-- The result of an entry, 0 where it is accepted: rule 4.3. m: this motor's record as it is lent.
unfoldable pub result_of : Motor → Entry → ℕ
result_of m (table before behind words period) = table_refusal (before ++ (m ∷ behind)) words period
result_of m (single word period) = one_refusal m word period
result_of m (other_table ms words period) = table_refusal ms words period
result_of m (other_single n word period) = one_refusal n word period

-- this motor's record after an entry
unfoldable pub after : Motor → Entry → Motor
after m (table before behind words period) = get_or (table_after (before ++ (m ∷ behind)) words period) (length before) m
after m (single word period) = one_after m word period
after m (other_table ms words period) = m
after m (other_single n word period) = m

-- what an entry says to this motor: its word and the period
unfoldable pub input_of : Entry → Input
input_of (table before behind words period) = record { word = get_or words (length before) 0; period = period }
input_of (single word period) = record { word = word; period = period }
input_of (other_table ms words period) = record { word = 0; period = period }
input_of (other_single n word period) = record { word = word; period = period }

unfoldable pub takes_in : Entry → Bool
takes_in (table before behind words period) = true
takes_in (single word period) = true
takes_in (other_table ms words period) = false
takes_in (other_single n word period) = false

-- it is accepted, and has this motor in it
unfoldable pub counts : Motor → Entry → Bool
counts m e = takes_in e && eqb (result_of m e) 0

-- What the scans of a list make of a motor that starts fresh and that nothing else writes.
unfoldable pub record_after : Settings → Log Entry → Motor
record_after s none = fresh s
record_after s (es ▸ e) = after (record_after s es) e

-- A motor's history: rule 5.2. The first scan in it is number 1.
unfoldable pub history : Settings → Log Entry → Log Input
history s none = none
history s (es ▸ e) = when counts (record_after s es) e then history s es ▸ input_of e else history s es

-- The record that a history leads to: the ten steps, from a fresh one on
unfoldable pub record_of : Settings → Log Input → Motor
record_of s none = fresh s
record_of s (h ▸ i) = step (record_of s h) i.word i.period
