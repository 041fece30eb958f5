-- The limits, and the order of refusals of a scan: rules 4.1 to 4.5, as far as they concern a scan. 0 is an accepted scan.
use Rattle.std.specs.Prelude.{ℕ, Bool, not, ◌&&◌, ◌||◌, List, [], ◌∷◌, ◌++◌, eqb, leb, ltb, length, take, drop}
use Rattle.std.specs.List.{list_all}
use Rattle.words.specs.Word.{when◌then◌else◌}
use Rattle.rules.specs.declared.Settings.{Settings}
use Rattle.rules.specs.declared.Status.{Status}
use Rattle.rules.specs.declared.Output.{Output}
use Rattle.rules.specs.declared.Motor.{Motor}
use Rattle.rules.specs.Steps.{step}

-- The limits: rule 4.1
abbrev pub most_time : ℕ
most_time = 600000

abbrev pub most_sum : ℕ
most_sum = 599999

abbrev pub most_flags : ℕ
most_flags = 32767

abbrev pub most_word : ℕ
most_word = 131071

abbrev pub most_period : ℕ
most_period = 10000

unfoldable pub most_motors : ℕ
most_motors = 32

-- A record in range: rule 2.1, with the settings of rule 1.2
unfoldable pub settings_in_range : Settings → Bool
settings_in_range s = leb s.ops1 65535 && leb s.ops2 31 && leb s.w most_time && leb s.u most_time

unfoldable pub status_in_range : Status → Bool
status_in_range v =
    leb v.mode 2 && leb v.sure 2 && leb v.position 2 && leb v.command 7 && leb v.end 3 && leb v.flags most_flags
    && leb v.previous most_word

unfoldable pub output_in_range : Output → Bool
output_in_range o = leb o.state 2 && leb o.sum most_sum

unfoldable pub in_range : Motor → Bool
in_range m = settings_in_range m.settings && status_in_range m.status && leb m.sum most_sum && output_in_range m.output

-- A period, and an input word, in limits
unfoldable pub period_ok : ℕ → Bool
period_ok period = leb 1 period && leb period most_period

unfoldable pub word_ok : ℕ → Bool
word_ok word = leb word most_word

-- A scan of one motor, rule 4.3: 6, 2, 3; refused, it leaves the record as it was.
unfoldable pub one_refusal : Motor → ℕ → ℕ → ℕ
one_refusal m word period = when not (in_range m) then 6 else when not (period_ok period) then 2 else when not (word_ok word) then 3 else 0

unfoldable pub one_after : Motor → ℕ → ℕ → Motor
one_after m word period = when eqb (one_refusal m word period) 0 then step m word period else m

-- A scan of a table, rules 4.3 to 4.5: 1, 6, 2, 3, each asked of the whole table; refused, it leaves the table as it was.
-- 1: so many records and so many words make no table
unfoldable pub misfit : ℕ → ℕ → Bool
misfit records words = not (eqb records words) || ltb most_motors records

unfoldable pub table_refusal : List Motor → List ℕ → ℕ → ℕ
table_refusal ms words period =
    when misfit (length ms) (length words) then 1
    else when not (list_all in_range ms) then 6
    else when not (period_ok period) then 2
    else when not (list_all word_ok words) then 3
    else 0

-- (in an accepted scan there is a word for each motor)
unfoldable pub step_all : List Motor → List ℕ → ℕ → List Motor
step_all [] words period = []
step_all (m ∷ ms) [] period = m ∷ ms
step_all (m ∷ ms) (word ∷ words) period = step m word period ∷ step_all ms words period

unfoldable pub table_after : List Motor → List ℕ → ℕ → List Motor
table_after ms words period = when eqb (table_refusal ms words period) 0 then step_all ms words period else ms

-- A scan of the first records of an array, with as many words; the records past them stay. A count that no table has is refused by 1.
unfoldable pub part_refusal : List Motor → ℕ → List ℕ → ℕ → ℕ
part_refusal ms count words period = when ltb most_motors count then 1 else table_refusal (take count ms) (take count words) period

unfoldable pub part_after : List Motor → ℕ → List ℕ → ℕ → List Motor
part_after ms count words period =
    when ltb most_motors count then ms else table_after (take count ms) (take count words) period ++ drop count ms
