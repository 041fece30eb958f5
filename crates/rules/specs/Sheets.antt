-- Sheets with their marks, computed from the definitions: those of docs/RULES.md. Ours are in OwnSheets.antt. `motor::scan` ensures both
-- (AreRight), so the rules cannot part from them.
use Rattle.std.specs.Prelude.{ℕ, ◌≡◌, Bool, true, ◌&&◌, List, [], ◌∷◌, map, eqb}
use Rattle.words.specs.Word.{when◌then◌else◌}
use Rattle.rules.specs.declared.Settings.{Settings}
use Rattle.rules.specs.declared.Motor.{Motor}
use Rattle.rules.specs.Record.{fresh}
use Rattle.rules.specs.Refusals.{one_refusal, one_after}
use Rattle.rules.specs.Scans.{Input, scans}

-- a field of the record
pub data Field : Type 0 where
  mode : Field
  sure : Field
  position : Field
  command : Field
  sum : Field
  end : Field
  output : Field
  pulse : Field
  flags : Field
  previous : Field

unfoldable pub value_of : Field → Motor → ℕ
value_of mode m = m.status.mode
value_of sure m = m.status.sure
value_of position m = m.status.position
value_of command m = m.status.command
value_of sum m = m.sum
value_of end m = m.status.end
value_of output m = m.output.state
value_of pulse m = m.output.sum
value_of flags m = m.status.flags
value_of previous m = m.status.previous

-- a field and the value that it must have
infix 90 ◌≔◌
pub data Mark : Type 0 where
  ◌≔◌ : Field → ℕ → Mark

-- A sheet: the record as it is lent, the scans, and the marks after the last
pub record Sheet : Type 0 where
  pub start : Motor
  pub inputs : List Input
  pub marks : List Mark

-- each scan has a period of 100
unfoldable pub inputs_of : List ℕ → List Input
inputs_of [] = []
inputs_of (word ∷ words) = record { word = word; period = 100 } ∷ inputs_of words

unfoldable pub sheet : Settings → List ℕ → List Mark → Sheet
sheet s words marks = record { start = fresh s; inputs = inputs_of words; marks = marks }

unfoldable pub wiring : ℕ → ℕ → ℕ → ℕ → Settings
wiring ops1 ops2 w u = record { ops1 = ops1; ops2 = ops2; w = w; u = u }

-- the settings of the sheets in docs/RULES.md
unfoldable pub wired : Settings
wired = wiring 193 0 500 300

-- a whole line: what stands after scan and number
unfoldable pub line : ℕ → ℕ → ℕ → ℕ → ℕ → ℕ → List Mark
line m p c e o f = mode ≔ m ∷ position ≔ p ∷ command ≔ c ∷ end ≔ e ∷ output ≔ o ∷ flags ≔ f ∷ []

-- A lent record of a motor in Work that stands Off: command under way, its time sum, output, its pulse sum, and flags
unfoldable pub lent : ℕ → ℕ → ℕ → ℕ → ℕ → Motor
lent c time o run n =
    record {
      settings = wired;
      status = record { mode = 2; sure = 1; position = 1; command = c; end = 0; flags = n; previous = 32 };
      sum = time;
      output = record { state = o; sum = run };
    }

unfoldable pub all_accepted : Motor → List Input → Bool
all_accepted m [] = true
all_accepted m (i ∷ is) = eqb (one_refusal m i.word i.period) 0 && all_accepted (one_after m i.word i.period) is

-- a mark as the record has it
unfoldable pub read : Motor → Mark → Mark
read m (f ≔ n) = f ≔ value_of f m

-- the marks that the rules give, and none where a scan is refused
unfoldable pub found : Sheet → List Mark
found t = when all_accepted t.start t.inputs then map (read (scans t.start t.inputs)) t.marks else []

abbrev pub AreRight : List Sheet → Type 0
AreRight ts = map found ts ≡ map (λ (t : Sheet). t.marks) ts

-- The sheets of docs/RULES.md, in its order
unfoldable pub given_sheets : List Sheet
given_sheets =
    sheet wired (4128 ∷ []) (line 2 1 7 0 1 0)
    ∷ sheet wired (32 ∷ 4128 ∷ 32 ∷ 32 ∷ []) (line 2 1 7 0 1 0)
    ∷ sheet wired (32 ∷ 4128 ∷ 32 ∷ 32 ∷ 32 ∷ 32 ∷ []) (line 2 1 7 0 0 0)
    ∷ sheet wired (32 ∷ 4128 ∷ 32 ∷ 32 ∷ 32 ∷ 32 ∷ 32 ∷ []) (line 2 1 0 3 0 8192)
    ∷ sheet wired (32 ∷ 4128 ∷ 32 ∷ 32 ∷ 32 ∷ 32 ∷ 16 ∷ []) (line 2 2 0 1 0 0)
    -- LZ off displaces KO on, with LZ on or without
    ∷ sheet wired (32 ∷ 4128 ∷ 288 ∷ []) (line 2 1 2 2 2 32)
    ∷ sheet wired (32 ∷ 4128 ∷ 416 ∷ []) (line 2 1 2 2 2 32)
    ∷ sheet wired (32 ∷ 4128 ∷ 288 ∷ 32 ∷ []) (line 2 1 0 1 0 32)
    ∷ sheet wired (32 ∷ 4128 ∷ 416 ∷ 32 ∷ []) (line 2 1 0 1 0 32)
    ∷ sheet (wiring 193 0 0 300) (32 ∷ 4128 ∷ 32 ∷ []) (line 2 1 0 3 0 8192)
    ∷ sheet wired (32 ∷ 16 ∷ []) (line 2 2 0 0 0 4)
    -- both switches closed
    ∷ sheet wired (48 ∷ []) (line 2 0 0 0 0 16386)
    ∷ sheet (wiring 193 28 500 300) (48 ∷ []) (line 2 2 0 0 0 16386)
    -- Repair by its bit alone; two bits change no mode
    ∷ sheet wired (544 ∷ []) (mode ≔ 0 ∷ [])
    ∷ sheet wired (2592 ∷ []) (mode ≔ 2 ∷ [])
    ∷ []
