-- The dump of a whole file, which is the meaning of the waveform program: rules 9.2 to 9.4.
use Rattle.std.specs.Prelude.{ℕ, ◌+◌, Bool, true, false, not, ◌||◌, List, [], ◌∷◌, ◌++◌, eqb, length}
use Rattle.words.specs.Word.{when◌then◌else◌}
use Rattle.rules.specs.declared.Motor.{Motor}
use Rattle.rules.specs.Record.{output_on, output_off}
use Rattle.sheet.specs.declared.Request.{Request}
use Rattle.sheet.specs.declared.Request.TheVariants.{Motor as M, Input as I, Scan as S, Refused}
use Rattle.sheet.specs.Grammar.{requests_of}
use Rattle.interpreter.specs.State.{State, empty_state, refusal_for, changed, too_long}
use Rattle.vcd.specs.Text.{Sample, opening_of, recording_text}

-- The two outputs of a motor as signals, by the state of its output: On before Off
abbrev pub motor_signals : ℕ → List Bool
motor_signals state = eqb state output_on ∷ eqb state output_off ∷ []

-- Those of all motors, by number
unfoldable pub signals_of : List Motor → List Bool
signals_of [] = []
signals_of (m ∷ ms) = motor_signals m.output.state ++ signals_of ms

-- The time after an accepted request: a scan adds its period
unfoldable pub time_after : ℕ → Request → ℕ
time_after time (M number ops1 ops2 w u) = time
time_after time (I number word) = time
time_after time (S period) = time + period
time_after time Refused = time

-- What an accepted request records: a scan its time and the signals after it. `t` is the state after the request.
unfoldable pub sample_of : ℕ → State → Request → List Sample
sample_of time t (M number ops1 ops2 w u) = []
sample_of time t (I number word) = []
sample_of time t (S period) = record { time = time; signals = signals_of t.motors } ∷ []
sample_of time t Refused = []

-- The scans that the requests make, up to the first request that is refused
unfoldable pub samples_from : ℕ → State → List Request → List Sample
samples_from time t [] = []
samples_from time t (r ∷ rs) =
    when eqb (refusal_for t r) 0 then sample_of (time_after time r) (changed t r) r ++ samples_from (time_after time r) (changed t r) rs else []

unfoldable pub is_scan : Request → Bool
is_scan (M number ops1 ops2 w u) = false
is_scan (I number word) = false
is_scan (S period) = true
is_scan Refused = false

-- The motors of which header and #0 speak: those of the first scan, or of the end or the refused line that comes before any
unfoldable pub motors_before_scans : State → List Request → List Motor
motors_before_scans t [] = t.motors
motors_before_scans t (r ∷ rs) = when is_scan r || not (eqb (refusal_for t r) 0) then t.motors else motors_before_scans (changed t r) rs

-- Header and #0 for some motors
unfoldable pub opening : List Motor → List ℕ
opening ms = opening_of (length ms) (signals_of ms)

-- The dump of a file whose lines make these requests
unfoldable pub requests_dump : List Request → List ℕ
requests_dump rs =
    let ms = motors_before_scans empty_state rs in
    recording_text (length ms) (signals_of ms) (samples_from 0 empty_state rs)

-- The whole dump; a file that is too long has none
unfoldable pub dump_of : List ℕ → List ℕ
dump_of file = when too_long (length file) then [] else requests_dump (requests_of file)
