-- What a reader should find, rule 9.5: the wires of so many motors, and at each time what the last scan up to it left.
use Rattle.std.specs.Prelude.{ℕ, zero, suc, ◌+◌, Bool, List, [], ◌∷◌, leb}
use Rattle.words.specs.Word.{when◌then◌else◌}
use Rattle.vcd.specs.Text.{word_one, word_wire, code_of, on_name, off_name, Sample}
use Rattle.vcd.specs.Reader.{Wire}

-- `wire 1`, a code and a name
unfoldable pub wire_of : List ℕ → List ℕ → Wire
wire_of code name = record { kind = word_wire; size = word_one; code = code; name = name }

-- The wires, from signal i and from a motor's number on
unfoldable pub motor_wires : ℕ → ℕ → ℕ → List Wire
motor_wires i number zero = []
motor_wires i number (suc n) = wire_of (code_of i) (on_name number) ∷ wire_of (code_of (i + 1)) (off_name number) ∷ motor_wires (i + 2) (number + 1) n

-- The signals at a time: those of the last scan up to it, and before the first scan those of `before`
unfoldable pub signals_at : List Bool → List Sample → ℕ → List Bool
signals_at before [] time = before
signals_at before (s ∷ ss) time = signals_at (when leb s.time time then s.signals else before) ss time

unfoldable pub bit : Bool → ℕ
bit b = when b then 1 else 0
