-- Sheets of the sensor block, with their answers: what rule 11 says of some readings, shown by computing it. They were worked out from the
-- rule, by hand and in exact fractions.
use Rattle.std.specs.Prelude.{ℕ, ◌≡◌, true, false, codes, unwrap_or, Result, Ok, Err, List, [], ◌∷◌, map, eqb}
use Prim.Native.String.{String}
use Rattle.std.specs.List.{list_any}
use Rattle.std.specs.Float.{Float, nan, binary32}
use Rattle.std.specs.Float.Ieee.{of_bits}
use Rattle.std.specs.Float.Parse.{parse_float}
use Rattle.sensors.specs.declared.Sensors.{Sensors}
use Rattle.sensors.specs.declared.Value.{Value}
use Rattle.sensors.specs.declared.Value.TheVariants.{Known, Absent}
use Rattle.sensors.specs.declared.Answer.{Answer}
use Rattle.sensors.specs.declared.Refusal.{Refusal}
use Rattle.sensors.specs.declared.Refusal.TheVariants.{Limit}
use Rattle.sensors.specs.Sensors.{answer_of}

-- Sensors and options, and what is answered.
pub record Sheet : Type 0 where
  pub sensors : Sensors
  pub options : ℕ
  pub result : Result Answer Refusal

-- the number nearest to what a text writes
unfoldable pub written : String → Float
written text = unwrap_or (parse_float binary32 (codes text)) nan

-- three readings and the limit, no sensor marked
unfoldable pub three : String → String → String → String → Sensors
three a b c limit = record {
  first = written a;
  second = written b;
  third = written c;
  limit = written limit;
  first_marked = false;
  second_marked = false;
  third_marked = false;
}

-- a value by its bits
unfoldable pub bits : ℕ → Value
bits n = Known (of_bits binary32 n)

-- a value, and the flags that are 1 by their numbers: Y1 to Y5
unfoldable pub gives : Value → List ℕ → Result Answer Refusal
gives v ys = Ok (record {
  value = v;
  flags = record {
    error = list_any (eqb 1) ys;
    mismatch = list_any (eqb 2) ys;
    first = list_any (eqb 3) ys;
    second = list_any (eqb 4) ys;
    third = list_any (eqb 5) ys;
  };
})

unfoldable pub sheet : Sensors → ℕ → Result Answer Refusal → Sheet
sheet s options result = record { sensors = s; options = options; result = result }

-- what each sheet says is answered
abbrev pub AreRight : List Sheet → Type 0
AreRight ts = map (λ (t : Sheet). answer_of t.sensors t.options) ts ≡ map (λ (t : Sheet). t.result) ts

unfoldable pub given_sheets : List Sheet
given_sheets =
    -- three trusted. Both differences pass, one at the limit: the middle one, by bit 5 the mean; other bits have no effect. A difference
    -- is rounded. Equal readings go by the sensors' numbers
    sheet (three "10" "13" "12" "2") 0 (gives (bits 0x4140_0000) [])
    ∷ sheet (three "10" "13" "12" "2") 32 (gives (bits 0x413a_aaab) [])
    ∷ sheet (three "10" "13" "12" "2") 448 (gives (bits 0x4140_0000) [])
    ∷ sheet (three "10" "13" "12" "2") 4294966814 (gives (bits 0x4140_0000) [])
    ∷ sheet (three "65536" "-0.001953125" "-0.001953125" "65536") 0 (gives (bits 0xbb00_0000) [])
    ∷ sheet (three "0" "-0" "5" "10") 0 (gives (bits 0x8000_0000) [])
    ∷ sheet (three "0" "5" "-0" "10") 0 (gives (bits 0x8000_0000) [])
    ∷ sheet (three "-0" "0" "-0" "0") 0 (gives (bits 0) [])
    -- a mean adds in sensor order, and can lie outside its readings
    ∷ sheet (three "131072" "0.0078125" "0.0078125" "1000000") 32 (gives (bits 0x472a_aaab) [])
    ∷ sheet (three "0.0078125" "0.0078125" "131072" "1000000") 32 (gives (bits 0x472a_aaac) [])
    ∷ sheet (three "43.789787" "43.789787" "43.789787" "0") 32 (gives (bits 0x422f_28bd) [])
    ∷ sheet (three "-0" "-0" "-0" "0") 32 (gives (bits 0x8000_0000) [])
    -- one fails, of each sensor; bits 0, 5 and 7 do not count
    ∷ sheet (three "1" "11" "12" "2") 161 (gives (bits 0x4138_0000) (3 ∷ []))
    ∷ sheet (three "12" "1" "11" "2") 0 (gives (bits 0x4138_0000) (4 ∷ []))
    ∷ sheet (three "10" "11" "20" "2") 0 (gives (bits 0x4128_0000) (5 ∷ []))
    -- both fail; by bit 0 no sensor is flagged, by bit 7 there is no value
    ∷ sheet (three "1" "11" "30" "2") 32 (gives (bits 0x4130_0000) (2 ∷ 3 ∷ 5 ∷ []))
    ∷ sheet (three "11" "1" "30" "2") 0 (gives (bits 0x4130_0000) (2 ∷ 4 ∷ 5 ∷ []))
    ∷ sheet (three "11" "1" "30" "2") 1 (gives (bits 0x4130_0000) (2 ∷ []))
    ∷ sheet (three "1" "30" "11" "2") 128 (gives Absent (2 ∷ 3 ∷ 4 ∷ []))
    -- two trusted: the higher-numbered, by bit 6 the lower-numbered, by bit 8 or bit 5 their mean; bits 0 and 7 do not count
    ∷ sheet (record (three "1" "2" "4" "5") { first_marked = true }) 0 (gives (bits 0x4080_0000) [])
    ∷ sheet (record (three "1" "2" "4" "1") { second_marked = true }) 193 (gives (bits 0x3f80_0000) (2 ∷ []))
    ∷ sheet (three "2" "1" "NaN" "0.5") 256 (gives (bits 0x3fc0_0000) (2 ∷ []))
    ∷ sheet (record (three "1" "2" "4" "3") { first_marked = true }) 96 (gives (bits 0x4040_0000) [])
    ∷ sheet (record (three "1" "2" "4" "3") { third_marked = true }) 320 (gives (bits 0x3fc0_0000) [])
    ∷ sheet (three "-0" "-0" "NaN" "0") 32 (gives (bits 0x8000_0000) [])
    ∷ sheet (three "1e-45" "1e-45" "NaN" "0") 32 (gives (bits 1) [])
    -- 1,000,000 is trusted either way, and the next number, 1,000,000.0625, is not
    ∷ sheet (three "1000000" "-1000000" "1000000.06" "1000000") 32 (gives (bits 0) (2 ∷ []))
    -- a difference of 65536.001953125 is rounded to 65536, which is not above the limit
    ∷ sheet (three "65536" "-0.001953125" "inf" "65536") 64 (gives (bits 0x4780_0000) [])
    -- one trusted, by bit 7 no value; none trusted
    ∷ sheet (three "-inf" "2" "-1000000.06" "1") 0 (gives (bits 0x4000_0000) (1 ∷ []))
    ∷ sheet (record (three "1" "2" "3" "1") { first_marked = true; second_marked = true }) 0 (gives (bits 0x4040_0000) (1 ∷ []))
    ∷ sheet (record (three "1" "2" "3" "1") { second_marked = true; third_marked = true }) 0 (gives (bits 0x3f80_0000) (1 ∷ []))
    ∷ sheet (record (three "1" "2" "3" "1") { second_marked = true; third_marked = true }) 128 (gives Absent (1 ∷ []))
    ∷ sheet (record (three "1" "NaN" "3" "1") { first_marked = true; third_marked = true }) 0 (gives Absent (1 ∷ []))
    -- a limit that is refused, whatever else; -0 is not
    ∷ sheet (three "NaN" "2" "3" "-1") 0 (Err Limit)
    ∷ sheet (three "1" "2" "3" "inf") 0 (Err Limit)
    ∷ sheet (three "1" "2" "3" "NaN") 0 (Err Limit)
    ∷ sheet (three "3" "3" "3" "-0") 0 (gives (bits 0x4040_0000) [])
    ∷ []
