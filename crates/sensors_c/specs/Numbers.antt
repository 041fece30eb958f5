-- Sensors and answers as numbers, for programs in other languages.
use Rattle.std.specs.Prelude.{ℕ, ◌+◌, ◌*◌, Result, Ok, Err, is_some, unwrap_or}
use Rattle.std.specs.Float.{Float}
use Rattle.words.specs.Word.{when◌then◌else◌, is_set}
use Rattle.sensors.specs.declared.Sensors.{Sensors}
use Rattle.sensors.specs.declared.Answer.{Answer}
use Rattle.sensors.specs.declared.Refusal.{Refusal}
use Rattle.sensors.specs.Sensors.{counted, value_of}

-- four numbers, and marks by the bits 0 to 2
unfoldable pub sensors_of : Float → Float → Float → Float → ℕ → Sensors
sensors_of first second third limit marks = record {
  first = first;
  second = second;
  third = third;
  limit = limit;
  first_marked = is_set 0 marks;
  second_marked = is_set 1 marks;
  third_marked = is_set 2 marks;
}

-- Y1 to Y5 in bits 0 to 4, and in bit 5 whether there is a value
unfoldable pub number_of_flags : Answer → ℕ
number_of_flags a =
    counted a.flags.error + 2 * counted a.flags.mismatch
    + 4 * counted a.flags.first + 8 * counted a.flags.second + 16 * counted a.flags.third
    + 32 * counted (is_some (value_of a.value))

-- what is left in the place of the flags: none where the call is refused
unfoldable pub flags_after : Result Answer Refusal → ℕ
flags_after (Ok a) = number_of_flags a
flags_after (Err r) = 0

-- what is left in the place of the value: what stood there, where there is none
unfoldable pub value_after : Float → Result Answer Refusal → Float
value_after old (Ok a) = unwrap_or (value_of a.value) old
value_after old (Err r) = old

unfoldable pub opened : Type 0
unfolding when◌then◌else◌ counted number_of_flags flags_after value_after sensors_of
opened = Unit {0}
