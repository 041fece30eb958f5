-- The state of a bench, and what the request of a line does to it: rules 7.5 to 7.8, and rule 4.3 for M, I and S.
-- A refused line leaves the state as it was; 0 is an accepted line.
use Rattle.std.specs.Prelude.{ℕ, ◌+◌, ◌-◌, ◌≡◌, min, Bool, true, not, ◌&&◌, List, [], ◌∷◌, ◌++◌, eqb, leb, ltb, length, take, set, Result, OnErr}
use Rattle.words.specs.Word.{when◌then◌else◌}
use Rattle.rules.specs.declared.Settings.{Settings}
use Rattle.rules.specs.declared.Motor.{Motor}
use Rattle.rules.specs.Record.{fresh}
use Rattle.refusals.specs.declared.Refusal.{Refusal}
use Rattle.refusals.specs.Numbers.{code_of}
use Rattle.rules.specs.Refusals.{most_motors, settings_in_range, word_ok, table_refusal, table_after}
use Rattle.sheet.specs.declared.Request.{Request}
use Rattle.sheet.specs.declared.Request.TheVariants.{Motor as M, Input as I, Scan as S, Refused}
use Rattle.sheet.specs.Grammar.{request_refusal}
use Rattle.totals.specs.declared.Totals.{Totals}
use Rattle.totals.specs.Running.{no_totals, all_totals}
use Rattle.interpreter.specs.declared.Bench.{Bench}

-- The motors by rising number, their running totals (by which neither `print_of` nor `dump_of` goes: totals/specs/Running.antt), the word that each
-- holds, and how many scans were accepted
pub record State : Type 0 where
  pub motors : List Motor
  pub totals : List Totals
  pub words : List ℕ
  pub scans : ℕ

unfoldable pub empty_state : State
empty_state = record { motors = []; totals = []; words = []; scans = 0 }

-- The next number of a scan or of a line, from 1 on. They are 32-bit words; a file of 65,536 bytes has far fewer lines.
unfoldable pub next_number : ℕ → ℕ
next_number n = min (n + 1) 4294967295

-- `M,number,OPS_1,OPS_2,W,U`: 4, 8, 7, 9. `held` motors are there, `scans` scans were accepted.
unfoldable pub motor_refusal : ℕ → ℕ → ℕ → Settings → ℕ
motor_refusal held scans number s =
    when not (settings_in_range s) then 4
    else when ltb 0 scans then 8
    else when leb most_motors held then 7
    else when not (eqb number (held + 1)) then 9
    else 0

-- The motor that it adds is fresh, and holds the word 0.
unfoldable pub with_motor : State → Settings → State
with_motor t s =
    record {
      motors = t.motors ++ (fresh s ∷ []);
      totals = t.totals ++ (no_totals ∷ []);
      words = t.words ++ (0 ∷ []);
      scans = t.scans;
    }

-- `I,number,word`: 10, 3
unfoldable pub is_there : ℕ → ℕ → Bool
is_there held number = leb 1 number && leb number held

unfoldable pub input_refusal : ℕ → ℕ → ℕ → ℕ
input_refusal held number word = when not (is_there held number) then 10 else when not (word_ok word) then 3 else 0

-- The word is held up to the motor's next I line.
unfoldable pub with_words : State → List ℕ → State
with_words t words = record { motors = t.motors; totals = t.totals; words = words; scans = t.scans }

unfoldable pub with_word : State → ℕ → ℕ → State
with_word t number word = with_words t (set t.words (number - 1) word)

-- `S,period`: the table's scan with the words that the motors hold, refused as that is. In a bench that began empty this leaves
-- nothing but 2 (proofs/Kept.antt). An accepted scan is counted.
unfoldable pub scan_refusal : State → ℕ → ℕ
scan_refusal t period = table_refusal t.motors t.words period

unfoldable pub with_scan : State → ℕ → State
with_scan t period =
    record {
      motors = table_after t.motors t.words period;
      totals = all_totals t.totals t.motors t.words period;
      words = t.words;
      scans = next_number t.scans;
    }

-- The refusal of a line's request; 5, of a line that makes none, comes before all else.
unfoldable pub refusal_for : State → Request → ℕ
refusal_for t (M number ops1 ops2 w u) = motor_refusal (length t.motors) t.scans number (record { ops1 = ops1; ops2 = ops2; w = w; u = u })
refusal_for t (I number word) = input_refusal (length t.motors) number word
refusal_for t (S period) = scan_refusal t period
refusal_for t Refused = request_refusal Refused

-- What an accepted line makes of the state
unfoldable pub changed : State → Request → State
changed t (M number ops1 ops2 w u) = with_motor t (record { ops1 = ops1; ops2 = ops2; w = w; u = u })
changed t (I number word) = with_word t number word
changed t (S period) = with_scan t period
changed t Refused = t

unfoldable pub state_after : State → Request → State
state_after t r = when eqb (refusal_for t r) 0 then changed t r else t

unfoldable pub states_after : State → List Request → State
states_after t [] = t
states_after t (r ∷ rs) = states_after (state_after t r) rs

-- The requests up to the first that is refused
unfoldable pub accepted_from : State → List Request → List Request
accepted_from t [] = []
accepted_from t (r ∷ rs) = when eqb (refusal_for t r) 0 then r ∷ accepted_from (changed t r) rs else []

-- Each request is accepted, in the state that those before it leave
unfoldable pub all_accepted : State → List Request → Bool
all_accepted t [] = true
all_accepted t (r ∷ rs) = eqb (refusal_for t r) 0 && all_accepted (changed t r) rs

-- 1: a file of so many bytes is too long
unfoldable pub too_long : ℕ → Bool
too_long n = ltb 65536 n

-- The state that a bench holds: of its arrays, the first `count` elements. Nothing depends on what lies past them.
abbrev pub view_of : Bench → State
view_of b =
    record {
      motors = take b.count b.motors;
      totals = take b.count b.totals;
      words = take b.count b.words;
      scans = b.scans;
    }

-- How many motors a bench has: a count past its arrays counts as all of them.
abbrev pub held_of : Bench → ℕ
held_of b = min b.count most_motors

-- A request does to a bench what it does to its state. A refused one leaves it as it was, what lies past its motors too.
pub record Acts (before : Bench) (request : Request) (result : Result Unit Refusal) (after : Bench) : Type 0 where
  pub refusal : code_of result ≡ refusal_for (view_of before) request
  pub state : view_of after ≡ state_after (view_of before) request
  pub unchanged : OnErr result (after ≡ before)
