-- One scan of one motor: rules 3.1 to 3.10 of docs/RULES.md, a definition a step (letters and signs: see Record.antt). `statusN` and
-- `flagsN` are the status and the flags that step N leaves.
-- Steps 1, 2, 5 to 8 and 10 go by the settings, the status and the input word alone, and so does what steps 4 and 9 do to the status: the
-- book of commands shares them. It has no sums and no output, so it hands step 4 its own answer to whether the time is up.
-- What the switches read (`reading`) is found once, and handed to steps 2, 4 and 5.
use Rattle.std.specs.Prelude.{ℕ, ◌+◌, Bool, true, false, not, ◌&&◌, ◌||◌, List, [], ◌∷◌, eqb, leb, ltb}
use Rattle.std.specs.List.{list_any}
use Rattle.words.specs.Word.{when◌then◌else◌, with_bit, without_bit, without_bits}
use Rattle.rules.specs.declared.Settings.{Settings}
use Rattle.rules.specs.declared.Status.{Status}
use Rattle.rules.specs.declared.Output.{Output}
use Rattle.rules.specs.declared.Motor.{Motor}
use Rattle.rules.specs.declared.Half.{Half}
use Rattle.rules.specs.declared.Reading.{Reading}
use Rattle.rules.specs.declared.Reading.TheVariants.{Off, On, BothOpen, BothClosed}
use Rattle.rules.specs.Record.{ops₁, ops₂, local_mode, on_switch, off_switch, no_supply, forbid_on, forbid_off, reset, repair, reserve, work, unsure, off, on, no_end, end_confirmed, end_displaced, end_overdue, no_output, no_command, commands, sma_off, lz_off, lz_on, ko_off, ko_on, is_mu, is_ko, is_on, is_off, direction, own_output, opposite_output, flag, overdue_flag, bit_risen, command_risen, idle, dropped, with_mode, with_positions, with_command, with_flags, with_previous, with_status}

-- Rule 3.1: while Reset is 1, the twelve flags from flag 2 on are cleared; and no command has ended yet
unfoldable pub flags1 : Status → ℕ → ℕ
flags1 v word = when reset word then without_bits 2 12 v.flags else v.flags

unfoldable pub status1 : Status → ℕ → Status
status1 v word = with_flags (with_command v v.command no_end) (flags1 v word)

-- Rule 3.2: what the switches read, the On switch alone or both by OPS_1 bit 0
unfoldable pub read_on_switch : ℕ → Reading
read_on_switch word = when on_switch word then On else Off

-- by the On switch and the Off switch, true where closed
unfoldable pub pair_read : Bool → Bool → Reading
pair_read true false = On
pair_read false true = Off
pair_read false false = BothOpen
pair_read true true = BothClosed

unfoldable pub read_switches : ℕ → Reading
read_switches word = pair_read (on_switch word) (off_switch word)

unfoldable pub reading : Settings → ℕ → Reading
reading s word = when ops₁ s 0 then read_switches word else read_on_switch word

-- the position that is read, none where the reading is unsure
unfoldable pub position_read : Reading → ℕ
position_read Off = off
position_read On = on
position_read BothOpen = unsure
position_read BothClosed = unsure

unfoldable pub is_sure : Reading → Bool
is_sure r = not (eqb (position_read r) unsure)

unfoldable pub both_closed : Reading → Bool
both_closed Off = false
both_closed On = false
both_closed BothOpen = false
both_closed BothClosed = true

-- Flags 2 and 3: a change that no command asked for. Steps 1 and 2 leave the command alone, so it is the one of the scan's beginning.
unfoldable pub flags2 : Status → Reading → ℕ
flags2 v r =
    when idle v && eqb v.sure off && eqb (position_read r) on then with_bit 2 v.flags
    else when idle v && eqb v.sure on && eqb (position_read r) off then with_bit 3 v.flags
    else v.flags

-- The position that OPS_2 pretends where the reading is unsure
unfoldable pub pretended : Settings → ℕ → ℕ
pretended s sure = when not (ops₂ s 2) then unsure else when not (ops₂ s 3) then sure else when ops₂ s 4 then on else off

-- Position and last sure position: a sure reading is both of them from now on
unfoldable pub status2 : Settings → Status → Reading → Status
status2 s v r =
    with_flags
    (with_positions v (when is_sure r then position_read r else v.sure) (when is_sure r then position_read r else pretended s v.sure))
    (flags2 v r)

-- Rule 2.4: whether outputs are pulses, and whether one is out and so runs
unfoldable pub outputs_are_pulses : Settings → Bool
outputs_are_pulses s = ops₁ s 6 && ltb 0 s.u

unfoldable pub running : Settings → Output → Bool
running s o = not (eqb o.state no_output) && outputs_are_pulses s

-- Rule 3.3: the period on top of both sums, but for one that is idle
unfoldable pub step3 : Motor → ℕ → Motor
step3 m period =
    record {
      settings = m.settings;
      status = m.status;
      sum = when idle m.status then m.sum else m.sum + period;
      output =
          record {
            state = m.output.state;
            sum = when running m.settings m.output then m.output.sum + period else m.output.sum;
          };
    }

-- Rule 3.4, the command under way: the reading confirms it, or else it is overdue if its time is up (`up`)
unfoldable pub confirms : Reading → ℕ → Bool
confirms r c = is_sure r && eqb (position_read r) (direction c)

unfoldable pub confirmed : Status → Reading → Bool
confirmed v r = not (idle v) && confirms r v.command

unfoldable pub overdue : Status → Reading → Bool → Bool
overdue v r up = not (idle v) && not (confirms r v.command) && up

unfoldable pub ended : Status → Reading → Bool → Bool
ended v r up = confirmed v r || overdue v r up

-- the end that this gives
unfoldable pub end4 : Status → Reading → Bool → ℕ
end4 v r up = when confirmed v r then end_confirmed else when overdue v r up then end_overdue else v.end

unfoldable pub flags4 : Status → Reading → Bool → ℕ
flags4 v r up = when overdue v r up then with_bit (overdue_flag v.command) v.flags else v.flags

unfoldable pub status4 : Status → Reading → Bool → Status
status4 v r up = with_flags (with_command v (when ended v r up then no_command else v.command) (end4 v r up)) (flags4 v r up)

unfoldable pub time_up : Motor → Bool
time_up m = leb m.settings.w m.sum

-- Rule 3.4, the output: three causes for a running pulse to drop, none for a held output
unfoldable pub pulse_over : Settings → Output → Bool
pulse_over s o = leb s.u o.sum

unfoldable pub drops : Motor → Reading → Bool
drops m r =
    let s = m.settings in
    let v = m.status in
    let o = m.output in
    running s o
    && (pulse_over s o || overdue v r (time_up m) && eqb o.state (own_output v.command) || confirmed v r && ops₁ s 7)

unfoldable pub step4 : Motor → Reading → Motor
step4 m r =
    record {
      settings = m.settings;
      status = status4 m.status r (time_up m);
      sum = when ended m.status r (time_up m) then 0 else m.sum;
      output = when drops m r then dropped else m.output;
    }

-- Rule 3.5: flags 0, 1 and 14 are formed, outside local mode and, by either option, in it
unfoldable pub faults_formed : Settings → ℕ → Bool
faults_formed s word = ops₂ s 1 || not (local_mode word) || ops₁ s 2

-- flag 0: no supply, where the input is heeded
unfoldable pub supply_fault : Settings → ℕ → Bool
supply_fault s word = faults_formed s word && no_supply word && ops₁ s 1

-- flag 1: a switch fault, which a command under way hides
unfoldable pub switch_fault : Settings → Status → ℕ → Reading → Bool
switch_fault s v word r = faults_formed s word && not (is_sure r) && idle v

-- flag 14: a switch fault with both switches closed
unfoldable pub closed_fault : Settings → Status → ℕ → Reading → Bool
closed_fault s v word r = switch_fault s v word r && both_closed r

-- a flag put to a value
unfoldable pub put_flag : ℕ → Bool → ℕ → ℕ
put_flag k b flags = when b then with_bit k flags else without_bit k flags

unfoldable pub status5 : Settings → Status → ℕ → Reading → Status
status5 s v word r =
    with_flags v (put_flag 14 (closed_fault s v word r) (put_flag 1 (switch_fault s v word r) (put_flag 0 (supply_fault s word) v.flags)))

-- Rule 3.6: how many of the three bits that ask for a mode have risen
unfoldable pub modes_risen : Status → ℕ → ℕ
modes_risen v word =
    (when bit_risen v word 9 then 1 else 0) + (when bit_risen v word 10 then 1 else 0) + (when bit_risen v word 11 then 1 else 0)

-- the mode that is asked for, if just one has
unfoldable pub mode_asked : Status → ℕ → ℕ
mode_asked v word = when bit_risen v word 9 then repair else when bit_risen v word 10 then reserve else work

-- Reserve needs no fault, unless its option lets it pass; Repair and Reserve need position Off, Work nothing
unfoldable pub reserve_allowed : Settings → Status → Bool
reserve_allowed s v = (not (flag v 1) || ops₁ s 13) && (not (flag v 0) || ops₁ s 14)

unfoldable pub mode_allowed : Settings → Status → ℕ → Bool
mode_allowed s v mode = (eqb mode work || eqb v.position off) && (not (eqb mode reserve) || reserve_allowed s v)

-- the mode changes: no local mode, one bit alone, no command under way, none that rises, and it is allowed
unfoldable pub mode_changes : Settings → Status → ℕ → Bool
mode_changes s v word =
    not (local_mode word) && eqb (modes_risen v word) 1 && idle v && not (list_any (command_risen v word) commands)
    && mode_allowed s v (mode_asked v word)

unfoldable pub status6 : Settings → Status → ℕ → Status
status6 s v word = with_mode v (when mode_changes s v word then mode_asked v word else v.mode)

-- Rule 3.7: KO off acknowledges flags 5 and 6, KO on flag 4
unfoldable pub acknowledges_off : Settings → Status → ℕ → Bool
acknowledges_off s v word = not (local_mode word) && command_risen v word ko_off && ops₁ s 15 && (flag v 5 || flag v 6)

unfoldable pub acknowledges_on : Settings → Status → ℕ → Bool
acknowledges_on s v word = not (local_mode word) && command_risen v word ko_on && ops₂ s 0 && flag v 4

unfoldable pub flags7 : Settings → Status → ℕ → ℕ
flags7 s v word =
    let f = when acknowledges_off s v word then without_bits 5 2 v.flags else v.flags in
    when acknowledges_on s v word then without_bit 4 f else f

unfoldable pub status7 : Settings → Status → ℕ → Status
status7 s v word = with_flags v (flags7 s v word)

-- the rise of c acknowledges, and so is no command
unfoldable pub acknowledges : Settings → Status → ℕ → ℕ → Bool
acknowledges s v word c = eqb c ko_off && acknowledges_off s v word || eqb c ko_on && acknowledges_on s v word

-- Rule 3.8. Step 8 is handed the status as step 6 left it: whether a rise acknowledged is seen by flags 4 to 6 as they stood before step 7
-- cleared them. All else that it reads (mode, position, command, flag 0, previous word) step 7 leaves alone.
-- Local mode bars the operator's commands, its lack those of the local panel.
unfoldable pub wrong_place : ℕ → ℕ → Bool
wrong_place word c = is_ko c && local_mode word || is_mu c && not (local_mode word)

-- Forbid on bars KO on, and by its option every on command.
unfoldable pub on_forbidden : Settings → ℕ → ℕ → Bool
on_forbidden s word c = forbid_on word && (eqb c ko_on || is_on c && ops₁ s 5)

-- Forbid off bars KO off, and by its option every off command but SMA.
unfoldable pub off_forbidden : Settings → ℕ → ℕ → Bool
off_forbidden s word c = forbid_off word && (eqb c ko_off || is_off c && not (eqb c sma_off) && ops₁ s 4)

-- Repair bars all, flag 0 the on commands; what is not barred is admitted.
unfoldable pub admitted : Settings → Status → ℕ → ℕ → Bool
admitted s v word c =
    not (eqb v.mode repair) && not (wrong_place word c || on_forbidden s word c || off_forbidden s word c || flag v 0 && is_on c)

-- A candidate has risen, does not acknowledge, and is admitted.
unfoldable pub candidate : Settings → Status → ℕ → ℕ → Bool
candidate s v word c = command_risen v word c && not (acknowledges s v word c) && admitted s v word c

-- The strongest candidate is chosen: `commands` has the strongest first.
unfoldable pub first_of : (ℕ → Bool) → List ℕ → ℕ
first_of test [] = no_command
first_of test (c ∷ cs) = when test c then c else first_of test cs

unfoldable pub chosen : Settings → Status → ℕ → ℕ
chosen s v word = first_of (candidate s v word) commands

-- With no command under way the chosen one is issued, unless the motor stands in its direction.
unfoldable pub starts : ℕ → ℕ → Bool
starts new position = not (eqb new no_command) && not (eqb position (direction new))

-- It displaces the old one, which is under way, if it is stronger, and goes the other way or is SMA.
unfoldable pub displaces : ℕ → ℕ → Bool
displaces new old = not (eqb new no_command) && ltb new old && (not (eqb (direction new) (direction old)) || eqb new sma_off)

unfoldable pub issues : Status → ℕ → Bool
issues v new = when idle v then starts new v.position else displaces new v.command

-- the chosen command where it is issued, and else none. This is asked of command and position alone, which step 7 leaves.
unfoldable pub issued : Status → ℕ → ℕ
issued v c = when issues v c then c else no_command

-- Rule 3.9, issuing c: its direction clears flags 5 and 6, or 4; LZ on, LZ off and SMA then set one of their own
unfoldable pub flags9 : ℕ → ℕ → ℕ
flags9 c flags =
    let f = when is_on c then without_bits 5 2 flags else without_bit 4 flags in
    when eqb c lz_on then with_bit 4 f else when eqb c lz_off then with_bit 5 f else when eqb c sma_off then with_bit 6 f else f

-- Reserve turns to Work, by an option for each of four commands
unfoldable pub turns_to_work : Settings → Status → ℕ → Bool
turns_to_work s v c =
    eqb v.mode reserve
    && (eqb c lz_on && ops₁ s 8 || eqb c lz_off && ops₁ s 9 || eqb c ko_on && ops₁ s 10 || eqb c ko_off && ops₁ s 11)

-- The status after it: a command that was under way has ended displaced; without one the end of step 4 stays.
unfoldable pub issue_status : Settings → Status → ℕ → Status
issue_status s v c =
    with_flags (with_mode (with_command v c (when idle v then v.end else end_displaced)) (when turns_to_work s v c then work else v.mode))
    (flags9 c v.flags)

unfoldable pub status9 : Settings → Status → ℕ → Status
status9 s v c = when eqb c no_command then v else issue_status s v c

-- It raises its output, unless one of three options keeps it from that.
unfoldable pub raises : Settings → ℕ → Bool
raises s c = not (eqb c sma_off && not (ops₁ s 12) || is_mu c && not (ops₁ s 2) || is_off c && not (ops₁ s 6))

-- The pulse sum is 0 as an output is raised, whether it is a pulse or held.
unfoldable pub raised : ℕ → Output
raised c = record { state = own_output c; sum = 0 }

-- Only an output that is opposite to the command drops; its own, and none, stay as they are, an idle sum too.
unfoldable pub without_opposite : Output → ℕ → Output
without_opposite o c = when eqb o.state (opposite_output c) then dropped else o

unfoldable pub output9 : Settings → Output → ℕ → Output
output9 s o c = when raises s c then raised c else without_opposite o c

-- the whole record, with the command's time sum from 0
unfoldable pub issue : Motor → ℕ → Motor
issue m c =
    record {
      settings = m.settings;
      status = issue_status m.settings m.status c;
      sum = 0;
      output = output9 m.settings m.output c;
    }

unfoldable pub step9 : Motor → ℕ → Motor
step9 m c = when eqb c no_command then m else issue m c

-- Rule 3.10
unfoldable pub status10 : Status → ℕ → Status
status10 v word = with_previous v word

-- What the ten steps make of the status, as the book of commands takes it too: 1 to 6, where `up` says whether the time of a command
-- under way is up, and 7 to 10.
unfoldable pub status1to6 : Settings → Status → ℕ → Bool → Status
status1to6 s v word up =
    let r = reading s word in
    status6 s (status5 s (status4 (status2 s (status1 v word) r) r up) word r) word

unfoldable pub status7to10 : Settings → Status → ℕ → Status
status7to10 s v word = status10 (status9 s (status7 s v word) (issued v (chosen s v word))) word

-- The ten steps on the record
unfoldable pub steps1to5 : Motor → ℕ → ℕ → Motor
steps1to5 m word period =
    let s = m.settings in
    let r = reading s word in
    let m₂ = with_status m (status2 s (status1 m.status word) r) in
    let m₄ = step4 (step3 m₂ period) r in
    with_status m₄ (status5 s m₄.status word r)

-- Steps 6 and 7, and the choice of step 8
unfoldable pub to_choice : Motor → ℕ → Half
to_choice m word =
    let v₆ = status6 m.settings m.status word in
    record { motor = with_status m (status7 m.settings v₆ word); chosen = chosen m.settings v₆ word }

-- The first half of a scan: steps 1 to 7, and the choice of step 8
unfoldable pub half : Motor → ℕ → ℕ → Half
half m word period = to_choice (steps1to5 m word period) word

-- The second: the rest of step 8, and steps 9 and 10
unfoldable pub close : Half → ℕ → Motor
close h word =
    let m₉ = step9 h.motor (issued h.motor.status h.chosen) in
    with_status m₉ (status10 m₉.status word)

unfoldable pub step : Motor → ℕ → ℕ → Motor
step m word period = close (half m word period) word
