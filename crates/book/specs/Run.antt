-- A whole table run through a list of scans, each of all its motors or of one: what each motor of it meets is a list of entries, so the
-- claim is one about every motor of a real table that starts fresh.
use Rattle.std.specs.Prelude.{ℕ, suc, ◌≡◌, List, eqb, get_or, take, drop, set}
use Rattle.words.specs.Word.{when◌then◌else◌}
use Rattle.rules.specs.declared.Settings.{Settings}
use Rattle.rules.specs.declared.Motor.{Motor}
use Rattle.rules.specs.Record.{fresh}
use Rattle.rules.specs.Refusals.{one_after, table_after}
use Rattle.book.specs.Log.{Log, none, ◌▸◌}
use Rattle.book.specs.History.{Entry, table, single, other_single, record_after}
use Rattle.book.specs.Claim.{MotorClaim}

-- a scan of the table with words and a period, or of the motor at a place with a word and a period
pub data Order : Type 0 where
  all : List ℕ → ℕ → Order
  one : ℕ → ℕ → ℕ → Order

-- stands for a record that is not there
unfoldable pub nobody : Motor
nobody = fresh (record { ops1 = 0; ops2 = 0; w = 0; u = 0 })

unfoldable pub scanned : List Motor → Order → List Motor
scanned t (all words period) = table_after t words period
scanned t (one i word period) = set t i (one_after (get_or t i nobody) word period)

unfoldable pub table_run : List Motor → Log Order → List Motor
table_run t none = t
table_run t (os ▸ o) = scanned (table_run t os) o

-- what the motor at the place j of the table t meets
unfoldable pub entry_at : ℕ → List Motor → Order → Entry
entry_at j t (all words period) = table (take j t) (drop (suc j) t) words period
entry_at j t (one i word period) = when eqb i j then single word period else other_single (get_or t i nobody) word period

unfoldable pub entries_at : ℕ → List Motor → Log Order → Log Entry
entries_at j t none = none
entries_at j t (os ▸ o) = entries_at j t os ▸ entry_at j (table_run t os) o

-- The motor at the place j, fresh with the settings s at the start, is the one that the claim follows.
pub record Followed (t : List Motor) (j : ℕ) (s : Settings) (os : Log Order) : Type 0 where
  pub same : get_or (table_run t os) j nobody ≡ record_after s (entries_at j t os)
  pub claim : MotorClaim s (entries_at j t os)
