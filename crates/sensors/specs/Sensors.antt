-- The sensor block: rule 11, in its order. `add`, `sub` and `div` are those of single precision (binary32), each rounded once.
use Rattle.std.specs.Prelude.{◌≡◌, ℕ, ◌+◌, Bool, true, false, not, ◌&&◌, ◌||◌, Option, Some, None, Result, Ok, Err, eqb, ltb, pos}
use Rattle.std.specs.Float.{Float, ◌≤ᶠ◌, NotNan, binary32, float_zero, float_is_finite, float_with_sign}
use Rattle.std.specs.Float.Ieee.{add, sub, div, lt, le, eq, of_int}
use Rattle.words.specs.Word.{when◌then◌else◌, is_set}
use Rattle.sensors.specs.declared.Sensor.{Sensor}
use Rattle.sensors.specs.declared.Sensor.TheVariants.{First, Second, Third}
use Rattle.sensors.specs.declared.Sensors.{Sensors}
use Rattle.sensors.specs.declared.Value.{Value}
use Rattle.sensors.specs.declared.Value.TheVariants.{Known, Absent}
use Rattle.sensors.specs.declared.Flags.{Flags}
use Rattle.sensors.specs.declared.Answer.{Answer}
use Rattle.sensors.specs.declared.Refusal.{Refusal}
use Rattle.sensors.specs.declared.Refusal.TheVariants.{Limit}

-- ---- 11.1 What is handed in

unfoldable pub reading : Sensors → Sensor → Float
reading s First = s.first
reading s Second = s.second
reading s Third = s.third

unfoldable pub is_marked : Sensors → Sensor → Bool
is_marked s First = s.first_marked
is_marked s Second = s.second_marked
is_marked s Third = s.third_marked

-- a sensor's number, and whether i has a lower one than j
unfoldable pub number : Sensor → ℕ
number First = 1
number Second = 2
number Third = 3

unfoldable pub comes_before : Sensor → Sensor → Bool
comes_before i j = ltb (number i) (number j)

-- a whole number in single precision
unfoldable pub float_of : ℕ → Float
float_of n = of_int binary32 (pos n)

-- ---- 11.2 What is answered: a value or none, and the flags of sensors

abbrev pub value_of : Value → Option Float
value_of (Known x) = Some x
value_of Absent = None

unfoldable pub no_flags : Flags
no_flags = record { error = false; mismatch = false; first = false; second = false; third = false }

-- the flag of sensor n alone, and those of the other two
unfoldable pub own_flag : Sensor → Flags
own_flag First = record no_flags { first = true }
own_flag Second = record no_flags { second = true }
own_flag Third = record no_flags { third = true }

unfoldable pub other_flags : Sensor → Flags
other_flags First = record no_flags { second = true; third = true }
other_flags Second = record no_flags { first = true; third = true }
other_flags Third = record no_flags { first = true; second = true }

-- ---- 11.3 The refusal

abbrev pub number_of : Refusal → ℕ
number_of Limit = 11

abbrev pub code_of : Result Answer Refusal → ℕ
code_of (Ok answer) = 0
code_of (Err refusal) = number_of refusal

unfoldable pub limit_allowed : Float → Bool
limit_allowed limit = float_is_finite limit && not (lt limit float_zero)

unfoldable pub refusal_of : Sensors → ℕ
refusal_of s = when limit_allowed s.limit then 0 else 11

-- ---- 11.4 Trusted readings

-- not marked, finite, and at most 1,000,000 in magnitude
unfoldable pub is_trusted : Sensors → Sensor → Bool
is_trusted s n =
    not (is_marked s n)
    && (float_is_finite (reading s n) && le (float_with_sign false (reading s n)) (float_of 1000000))

-- ---- 11.5 Means, in sensor order

unfoldable pub mean_of_two : Sensors → Sensor → Sensor → Float
mean_of_two s i j = div binary32 (add binary32 (reading s i) (reading s j)) (float_of 2)

unfoldable pub mean_of_three : Sensors → Float
mean_of_three s = div binary32 (add binary32 (add binary32 s.first s.second) s.third) (float_of 3)

-- the mean of the two that are not n
unfoldable pub mean_without : Sensors → Sensor → Float
mean_without s First = mean_of_two s Second Third
mean_without s Second = mean_of_two s First Third
mean_without s Third = mean_of_two s First Second

-- ---- 11.6 Order and differences

-- i counts as smaller than j; 0 and -0 are equal
unfoldable pub is_smaller : Sensors → Sensor → Sensor → Bool
is_smaller s i j = lt (reading s i) (reading s j) || (eq (reading s i) (reading s j) && comes_before i j)

-- 1 if a test holds, otherwise 0
unfoldable pub counted : Bool → ℕ
counted test = when test then 1 else 0

-- how many sensors count as smaller than n, and the sensor where these are k: 0, 1 or 2
unfoldable pub rank : Sensors → Sensor → ℕ
rank s n = counted (is_smaller s First n) + counted (is_smaller s Second n) + counted (is_smaller s Third n)

unfoldable pub of_rank : Sensors → ℕ → Sensor
of_rank s k = when eqb (rank s First) k then First else when eqb (rank s Second) k then Second else Third

unfoldable pub least : Sensors → Sensor
least s = of_rank s 0

unfoldable pub middle : Sensors → Sensor
middle s = of_rank s 1

unfoldable pub greatest : Sensors → Sensor
greatest s = of_rank s 2

-- the difference of a larger and a smaller reading is above the limit
unfoldable pub fails : Sensors → Sensor → Sensor → Bool
fails s larger smaller = lt s.limit (sub binary32 (reading s larger) (reading s smaller))

-- the difference of i and j fails, whichever of them counts as smaller
unfoldable pub are_apart : Sensors → Sensor → Sensor → Bool
are_apart s i j = when is_smaller s i j then fails s j i else fails s i j

-- ---- 11.7 The answer, row by row

-- x, or by bit 7 no value
unfoldable pub unless_withheld : ℕ → Float → Value
unless_withheld options x = when is_set 7 options then Absent else Known x

-- three trusted, both differences pass
unfoldable pub both_pass : Sensors → Sensor → ℕ → Answer
both_pass s mid options = record {
  value = Known (when is_set 5 options then mean_of_three s else reading s mid);
  flags = no_flags;
}

-- three trusted, one difference fails, that of `outer`
unfoldable pub one_fails : Sensors → Sensor → Answer
one_fails s outer = record { value = Known (mean_without s outer); flags = own_flag outer }

-- three trusted, both differences fail
unfoldable pub both_fail : Sensors → Sensor → ℕ → Answer
both_fail s mid options = record {
  value = unless_withheld options (reading s mid);
  flags = record (when is_set 0 options then no_flags else other_flags mid) { mismatch = true };
}

-- three trusted: whether the difference of greatest and middle fails, and whether that of middle and least does
unfoldable pub by_differences : Bool → Bool → Sensors → ℕ → Answer
by_differences false false s options = both_pass s (middle s) options
by_differences true false s options = one_fails s (greatest s)
by_differences false true s options = one_fails s (least s)
by_differences true true s options = both_fail s (middle s) options

unfoldable pub of_three : Sensors → ℕ → Answer
of_three s options = by_differences (fails s (greatest s) (middle s)) (fails s (middle s) (least s)) s options

-- two trusted, i before j
unfoldable pub of_two : Sensors → Sensor → Sensor → ℕ → Answer
of_two s i j options = record {
  value =
      Known (when is_set 5 options || is_set 8 options then mean_of_two s i j
      else when is_set 6 options then reading s i
      else reading s j);
  flags = record no_flags { mismatch = are_apart s i j };
}

-- one trusted, n
unfoldable pub of_one : Sensors → Sensor → ℕ → Answer
of_one s n options = record { value = unless_withheld options (reading s n); flags = record no_flags { error = true } }

-- none trusted
unfoldable pub of_none : Answer
of_none = record { value = Absent; flags = record no_flags { error = true } }

-- by which of the three are trusted
unfoldable pub by_trust : Bool → Bool → Bool → Sensors → ℕ → Answer
by_trust true true true s options = of_three s options
by_trust false true true s options = of_two s Second Third options
by_trust true false true s options = of_two s First Third options
by_trust true true false s options = of_two s First Second options
by_trust true false false s options = of_one s First options
by_trust false true false s options = of_one s Second options
by_trust false false true s options = of_one s Third options
by_trust false false false s options = of_none

unfoldable pub trusted_answer : Sensors → ℕ → Answer
trusted_answer s options = by_trust (is_trusted s First) (is_trusted s Second) (is_trusted s Third) s options

-- the limit comes before anything else
unfoldable pub answer_of : Sensors → ℕ → Result Answer Refusal
answer_of s options = when eqb (refusal_of s) 0 then Ok (trusted_answer s options) else Err Limit

-- ---- 11.8 What holds of a value: it is a number of at most 1,000,000 in magnitude

abbrev pub IsWithin : Float → Type 0
IsWithin x = NotNan x × (float_with_sign false x ≤ᶠ float_of 1000000)

-- all three are trusted: what the order asks, since NaN has none
pub record AreTrusted (s : Sensors) : Type 0 where
  pub first : is_trusted s First ≡ true
  pub second : is_trusted s Second ≡ true
  pub third : is_trusted s Third ≡ true
