-- The text of a value change dump (IEEE 1364): rules 9.1 to 9.3. Words are parted by blanks, in lines.
use Rattle.std.specs.Prelude.{ℕ, zero, suc, ◌+◌, Bool, not, List, [], ◌∷◌, ◌++◌}
use Rattle.std.specs.Bool.{beq}
use Rattle.words.specs.Word.{when◌then◌else◌}
use Rattle.octets.specs.Split.{LF, joined}
use Rattle.report.specs.Print.{decimal}

-- A line: its words, with a blank between each two, and an LF
abbrev pub blank : ℕ
blank = 32

unfoldable pub word_line : List (List ℕ) → List ℕ
word_line words = joined blank words ++ LF ∷ []

-- $timescale
abbrev pub word_timescale : List ℕ
word_timescale = 36 ∷ 116 ∷ 105 ∷ 109 ∷ 101 ∷ 115 ∷ 99 ∷ 97 ∷ 108 ∷ 101 ∷ []

-- 1
abbrev pub word_one : List ℕ
word_one = 49 ∷ []

-- ms
abbrev pub word_ms : List ℕ
word_ms = 109 ∷ 115 ∷ []

-- $scope
abbrev pub word_scope : List ℕ
word_scope = 36 ∷ 115 ∷ 99 ∷ 111 ∷ 112 ∷ 101 ∷ []

-- module
abbrev pub word_module : List ℕ
word_module = 109 ∷ 111 ∷ 100 ∷ 117 ∷ 108 ∷ 101 ∷ []

-- bench
abbrev pub word_bench : List ℕ
word_bench = 98 ∷ 101 ∷ 110 ∷ 99 ∷ 104 ∷ []

-- $var
abbrev pub word_var : List ℕ
word_var = 36 ∷ 118 ∷ 97 ∷ 114 ∷ []

-- wire
abbrev pub word_wire : List ℕ
word_wire = 119 ∷ 105 ∷ 114 ∷ 101 ∷ []

-- $upscope
abbrev pub word_upscope : List ℕ
word_upscope = 36 ∷ 117 ∷ 112 ∷ 115 ∷ 99 ∷ 111 ∷ 112 ∷ 101 ∷ []

-- $enddefinitions
abbrev pub word_enddefinitions : List ℕ
word_enddefinitions = 36 ∷ 101 ∷ 110 ∷ 100 ∷ 100 ∷ 101 ∷ 102 ∷ 105 ∷ 110 ∷ 105 ∷ 116 ∷ 105 ∷ 111 ∷ 110 ∷ 115 ∷ []

-- $end
abbrev pub word_end : List ℕ
word_end = 36 ∷ 101 ∷ 110 ∷ 100 ∷ []

-- The code of signal i, one character
unfoldable pub code_of : ℕ → List ℕ
code_of i = (33 + i) ∷ []

-- m1on and m1off, m2on and m2off, and so on
unfoldable pub on_name : ℕ → List ℕ
on_name number = 109 ∷ decimal number ++ 111 ∷ 110 ∷ []

unfoldable pub off_name : ℕ → List ℕ
off_name number = 109 ∷ decimal number ++ 111 ∷ 102 ∷ 102 ∷ []

-- `$var wire 1 ! m1on $end`
unfoldable pub wire_line : List ℕ → List ℕ → List ℕ
wire_line code name = word_line (word_var ∷ word_wire ∷ word_one ∷ code ∷ name ∷ word_end ∷ [])

-- The wires of so many motors: the first of them has this number, and its On signal is signal i
unfoldable pub wires_from : ℕ → ℕ → ℕ → List ℕ
wires_from i number zero = []
wires_from i number (suc n) = wire_line (code_of i) (on_name number) ++ wire_line (code_of (i + 1)) (off_name number) ++ wires_from (i + 2) (number + 1) n

-- `$timescale 1 ms $end`, `$scope module bench $end`, the wires, `$upscope $end`, `$enddefinitions $end`
unfoldable pub frame_start : List ℕ
frame_start = word_line (word_timescale ∷ word_one ∷ word_ms ∷ word_end ∷ []) ++ word_line (word_scope ∷ word_module ∷ word_bench ∷ word_end ∷ [])

unfoldable pub frame_end : List ℕ
frame_end = word_line (word_upscope ∷ word_end ∷ []) ++ word_line (word_enddefinitions ∷ word_end ∷ [])

unfoldable pub header_of : ℕ → List ℕ
header_of motors = frame_start ++ wires_from 0 1 motors ++ frame_end

-- `#200`
unfoldable pub time_line : ℕ → List ℕ
time_line time = word_line ((35 ∷ decimal time) ∷ [])

-- `1!` or `0!`
unfoldable pub digit_of : Bool → ℕ
digit_of value = when value then 49 else 48

unfoldable pub value_line : List ℕ → Bool → List ℕ
value_line code value = word_line ((digit_of value ∷ code) ∷ [])

-- All signals, by number, from signal i on
unfoldable pub values_from : ℕ → List Bool → List ℕ
values_from i [] = []
values_from i (v ∷ vs) = value_line (code_of i) v ++ values_from (i + 1) vs

-- Those alone that changed, by number, from signal i on
unfoldable pub differs : Bool → Bool → Bool
differs v w = not (beq v w)

unfoldable pub change_line : List ℕ → Bool → Bool → List ℕ
change_line code v w = when differs v w then value_line code w else []

unfoldable pub changes_from : ℕ → List Bool → List Bool → List ℕ
changes_from i [] ws = []
changes_from i (v ∷ vs) [] = []
changes_from i (v ∷ vs) (w ∷ ws) = change_line (code_of i) v w ++ changes_from (i + 1) vs ws

-- A time before its changes; without changes nothing
unfoldable pub timed : ℕ → List ℕ → List ℕ
timed time [] = []
timed time (b ∷ bs) = time_line time ++ b ∷ bs

-- Header and #0: On and Off of so many motors
unfoldable pub opening_of : ℕ → List Bool → List ℕ
opening_of motors signals = header_of motors ++ time_line 0 ++ values_from 0 signals

-- What is recorded: the signals after a scan, and its time
pub record Sample : Type 0 where
  pub time : ℕ
  pub signals : List Bool

-- The later times, each with what changed in its scan
unfoldable pub samples_text : List Bool → List Sample → List ℕ
samples_text before [] = []
samples_text before (s ∷ ss) = timed s.time (changes_from 0 before s.signals) ++ samples_text s.signals ss

-- The whole dump of what was recorded; `first` are the signals before the first scan
unfoldable pub recording_text : ℕ → List Bool → List Sample → List ℕ
recording_text motors first samples = opening_of motors first ++ samples_text first samples
