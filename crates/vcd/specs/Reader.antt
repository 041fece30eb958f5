-- What a dump says, read by a reader that knows nothing of who wrote it: its time scale, the wires that it declares, and the value of each at each
-- time. Of IEEE 1364 it takes in declarations, times, and values 0, 1, x, z of single wires outside any `$..` section; `scale_in` and `wires_in` do
-- not ask about sections.
use Rattle.std.specs.Prelude.{ℕ, ◌-◌, Bool, true, false, not, ◌&&◌, ◌||◌, List, [], ◌∷◌, eqb, leb, get_or, take}
use Rattle.words.specs.Word.{when◌then◌else◌}
use Rattle.octets.specs.Split.{join_first}
use Rattle.octets.specs.Number.{value_from}

-- $timescale
abbrev pub scale_word : List ℕ
scale_word = 36 ∷ 116 ∷ 105 ∷ 109 ∷ 101 ∷ 115 ∷ 99 ∷ 97 ∷ 108 ∷ 101 ∷ []

-- $var
abbrev pub var_word : List ℕ
var_word = 36 ∷ 118 ∷ 97 ∷ 114 ∷ []

-- $end
abbrev pub end_word : List ℕ
end_word = 36 ∷ 101 ∷ 110 ∷ 100 ∷ []

-- The words of a dump: white space parts them, tab, LF, CR and blank
unfoldable pub is_space : ℕ → Bool
is_space b = eqb b 9 || eqb b 10 || eqb b 13 || eqb b 32

unfoldable pub parts_of : List ℕ → List (List ℕ)
parts_of [] = [] ∷ []
parts_of (b ∷ bs) = when is_space b then [] ∷ parts_of bs else join_first b (parts_of bs)

unfoldable pub present : List (List ℕ) → List (List ℕ)
present [] = []
present ([] ∷ ps) = present ps
present ((b ∷ bs) ∷ ps) = (b ∷ bs) ∷ present ps

unfoldable pub words_in : List ℕ → List (List ℕ)
words_in dump = present (parts_of dump)

-- Two words are the same
unfoldable pub same : List ℕ → List ℕ → Bool
same [] [] = true
same [] (y ∷ ys) = false
same (x ∷ xs) [] = false
same (x ∷ xs) (y ∷ ys) = eqb x y && same xs ys

-- `$timescale`, a number, a unit, `$end`: number and unit of the first that there is, nothing if there is none
unfoldable pub scale_in : List (List ℕ) → List (List ℕ)
scale_in [] = []
scale_in (w ∷ ws) = when same w scale_word then take 2 ws else scale_in ws

-- `$var`, a kind, a size, a code, a name, `$end` declares a wire
pub record Wire : Type 0 where
  pub kind : List ℕ
  pub size : List ℕ
  pub code : List ℕ
  pub name : List ℕ

unfoldable pub wires_in : List (List ℕ) → List Wire
wires_in [] = []
wires_in (w ∷ ws) =
    when same w var_word then record { kind = get_or ws 0 []; size = get_or ws 1 []; code = get_or ws 2 []; name = get_or ws 3 [] } ∷ wires_in ws
    else wires_in ws

-- One of some wires has this code
unfoldable pub declared : List Wire → List ℕ → Bool
declared [] code = false
declared (w ∷ ws) code = same w.code code || declared ws code

-- A value is 0, 1 or unknown, and x and z are unknown
abbrev pub unknown : ℕ
unknown = 2

unfoldable pub is_unknown : ℕ → Bool
is_unknown b = eqb b 120 || eqb b 88 || eqb b 122 || eqb b 90

-- A value and a code is a change of that signal, at the time that the last `#` before it gives. A section is from a word that begins with $ up
-- to `$end`.
pub record Change : Type 0 where
  pub time : ℕ
  pub code : List ℕ
  pub value : ℕ

unfoldable pub changes_in : Bool → ℕ → List (List ℕ) → List Change
changes_in section time [] = []
changes_in true time (w ∷ ws) = changes_in (not (same w end_word)) time ws
changes_in false time ([] ∷ ws) = changes_in false time ws
changes_in false time ((b ∷ bs) ∷ ws) =
    when eqb b 36 then changes_in true time ws
    else when eqb b 35 then changes_in false (value_from 0 bs) ws
    else when eqb b 48 || eqb b 49 then record { time = time; code = bs; value = b - 48 } ∷ changes_in false time ws
    else when is_unknown b then record { time = time; code = bs; value = unknown } ∷ changes_in false time ws
    else changes_in false time ws

-- The value of a signal at a time: that of its last change not later than the time, and unknown before its first
unfoldable pub last_value : ℕ → List Change → List ℕ → ℕ → ℕ
last_value v [] code time = v
last_value v (c ∷ cs) code time = last_value (when same c.code code && leb c.time time then c.value else v) cs code time

-- What a dump says
unfoldable pub scale_of : List ℕ → List (List ℕ)
scale_of dump = scale_in (words_in dump)

unfoldable pub wires_of : List ℕ → List Wire
wires_of dump = wires_in (words_in dump)

unfoldable pub value_at : List ℕ → List ℕ → ℕ → ℕ
value_at dump code time = last_value unknown (changes_in false 0 (words_in dump)) code time
