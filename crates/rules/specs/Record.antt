-- A motor's settings, input word, commands and record: rules 1 and 2 of docs/RULES.md. Times are milliseconds.
-- Letters: s settings, v status, o output, m record, c a command's number.
-- `x.f` is field f of x; `&&` is and, `||` or, `&&` binds before `||`; `eqb a b` is a = b, `leb a b` is a ≤ b, `ltb a b` is a < b.
use Rattle.std.specs.Prelude.{ℕ, ◌+◌, Bool, ◌||◌, List, [], ◌∷◌, eqb, not, Option}
use Rattle.std.specs.Bool.{then_some}
use Rattle.words.specs.Word.{when◌then◌else◌, is_set, without}
use Rattle.rules.specs.declared.Settings.{Settings}
use Rattle.rules.specs.declared.Status.{Status}
use Rattle.rules.specs.declared.Output.{Output}
use Rattle.rules.specs.declared.Motor.{Motor}

-- Bit k of OPS_1, and of OPS_2: rules 1.3 and 1.4
unfoldable pub ops₁ : Settings → ℕ → Bool
ops₁ s k = is_set k s.ops1

unfoldable pub ops₂ : Settings → ℕ → Bool
ops₂ s k = is_set k s.ops2

-- The input word: rule 1.5. Bits 9 to 11 ask for a mode (rule 3.6), those of the commands are `input_bit`; the others:
unfoldable pub local_mode : ℕ → Bool
local_mode word = is_set 1 word

unfoldable pub on_switch : ℕ → Bool
on_switch word = is_set 4 word

unfoldable pub off_switch : ℕ → Bool
off_switch word = is_set 5 word

unfoldable pub no_supply : ℕ → Bool
no_supply word = is_set 6 word

unfoldable pub forbid_on : ℕ → Bool
forbid_on word = is_set 14 word

unfoldable pub forbid_off : ℕ → Bool
forbid_off word = is_set 15 word

unfoldable pub reset : ℕ → Bool
reset word = is_set 16 word

-- Modes
abbrev pub repair : ℕ
repair = 0

abbrev pub reserve : ℕ
reserve = 1

abbrev pub work : ℕ
work = 2

-- Positions; of a command, its direction
abbrev pub unsure : ℕ
unsure = 0

abbrev pub off : ℕ
off = 1

abbrev pub on : ℕ
on = 2

-- Ends of a command
abbrev pub no_end : ℕ
no_end = 0

abbrev pub end_confirmed : ℕ
end_confirmed = 1

abbrev pub end_displaced : ℕ
end_displaced = 2

abbrev pub end_overdue : ℕ
end_overdue = 3

-- Outputs
abbrev pub no_output : ℕ
no_output = 0

abbrev pub output_on : ℕ
output_on = 1

abbrev pub output_off : ℕ
output_off = 2

-- The seven switching commands, strongest first: rule 1.7. No command is 0.
abbrev pub no_command : ℕ
no_command = 0

abbrev pub sma_off : ℕ
sma_off = 1

abbrev pub lz_off : ℕ
lz_off = 2

abbrev pub lz_on : ℕ
lz_on = 3

abbrev pub mu_off : ℕ
mu_off = 4

abbrev pub mu_on : ℕ
mu_on = 5

abbrev pub ko_off : ℕ
ko_off = 6

abbrev pub ko_on : ℕ
ko_on = 7

unfoldable pub commands : List ℕ
commands = sma_off ∷ lz_off ∷ lz_on ∷ mu_off ∷ mu_on ∷ ko_off ∷ ko_on ∷ []

-- A command as an `Option`: its number, or none
abbrev pub command_of : ℕ → Option ℕ
command_of c = then_some (not (eqb c no_command)) c

-- The direction of a command, rule 1.7; what is no command has none
unfoldable pub direction : ℕ → ℕ
direction c =
    when eqb c lz_on || eqb c mu_on || eqb c ko_on then on
    else when eqb c sma_off || eqb c lz_off || eqb c mu_off || eqb c ko_off then off
    else unsure

unfoldable pub is_on : ℕ → Bool
is_on c = eqb (direction c) on

unfoldable pub is_off : ℕ → Bool
is_off c = eqb (direction c) off

-- The commands of the local panel and of the operator
unfoldable pub is_mu : ℕ → Bool
is_mu c = eqb c mu_off || eqb c mu_on

unfoldable pub is_ko : ℕ → Bool
is_ko c = eqb c ko_off || eqb c ko_on

-- The output of a command, and the other one (neither is asked for without a command)
unfoldable pub own_output : ℕ → ℕ
own_output c = when is_on c then output_on else output_off

unfoldable pub opposite_output : ℕ → ℕ
opposite_output c = when is_on c then output_off else output_on

-- The input bit of a command; what is no command has bit 32, which no word has
unfoldable pub input_bit : ℕ → ℕ
input_bit c =
    when eqb c sma_off then 0
    else when eqb c lz_off then 8
    else when eqb c lz_on then 7
    else when eqb c mu_off then 3
    else when eqb c mu_on then 2
    else when eqb c ko_off then 13
    else when eqb c ko_on then 12
    else 32

-- Flag k stands; which flag says that command c was overdue: rule 2.2
unfoldable pub flag : Status → ℕ → Bool
flag v k = is_set k v.flags

unfoldable pub overdue_flag : ℕ → ℕ
overdue_flag c = 6 + c

-- The risen word, rule 1.6: the bits that are 1 in the word and 0 in the previous one
unfoldable pub risen : Status → ℕ → ℕ
risen v word = without v.previous word

unfoldable pub bit_risen : Status → ℕ → ℕ → Bool
bit_risen v word k = is_set k (risen v word)

-- The input bit of a command has risen
unfoldable pub command_risen : Status → ℕ → ℕ → Bool
command_risen v word c = bit_risen v word (input_bit c)

-- No command is under way
unfoldable pub idle : Status → Bool
idle v = eqb v.command no_command

-- What is left of an output that drops: rule 2.5
unfoldable pub dropped : Output
dropped = record { state = no_output; sum = 0 }

-- A fresh record, before its first scan: rule 2.3
unfoldable pub fresh_status : Status
fresh_status =
    record { mode = work; sure = unsure; position = unsure; command = no_command; end = no_end; flags = 0; previous = 0 }

unfoldable pub fresh : Settings → Motor
fresh s = record { settings = s; status = fresh_status; sum = 0; output = dropped }

-- A status, and a record, with some fields changed
unfoldable pub with_mode : Status → ℕ → Status
with_mode v mode = record { mode = mode; sure = v.sure; position = v.position; command = v.command; end = v.end; flags = v.flags; previous = v.previous }

unfoldable pub with_positions : Status → ℕ → ℕ → Status
with_positions v sure position = record { mode = v.mode; sure = sure; position = position; command = v.command; end = v.end; flags = v.flags; previous = v.previous }

unfoldable pub with_command : Status → ℕ → ℕ → Status
with_command v command end = record { mode = v.mode; sure = v.sure; position = v.position; command = command; end = end; flags = v.flags; previous = v.previous }

unfoldable pub with_flags : Status → ℕ → Status
with_flags v flags = record { mode = v.mode; sure = v.sure; position = v.position; command = v.command; end = v.end; flags = flags; previous = v.previous }

unfoldable pub with_previous : Status → ℕ → Status
with_previous v previous = record { mode = v.mode; sure = v.sure; position = v.position; command = v.command; end = v.end; flags = v.flags; previous = previous }

unfoldable pub with_status : Motor → Status → Motor
with_status m v = record { settings = m.settings; status = v; sum = m.sum; output = m.output }
