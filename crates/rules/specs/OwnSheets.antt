-- Sheets of our own, each worked out from its rule by hand: at least one for each way in which a rule was seen to be read wrongly. Their form
-- is that of Sheets.antt.
use Rattle.std.specs.Prelude.{ℕ, List, [], ◌∷◌, ◌++◌}
use Rattle.rules.specs.declared.Settings.{Settings}
use Rattle.rules.specs.declared.Motor.{Motor}
use Rattle.rules.specs.Record.{fresh_status, fresh}
use Rattle.rules.specs.Scans.{Input}
use Rattle.rules.specs.Sheets.{mode, sure, position, command, sum, end, output, pulse, flags, previous, ◌≔◌, Mark, Sheet, inputs_of, sheet, wiring, wired, line, lent}

-- a scan with its word and its period
infix 80 ◌for◌
unfoldable pub ◌for◌ : ℕ → ℕ → Input
word for period = record { word = word; period = period }

unfoldable pub from : Motor → List ℕ → List Mark → Sheet
from m words marks = record { start = m; inputs = inputs_of words; marks = marks }

unfoldable pub flagged : ℕ → ℕ → Motor
flagged c n = lent c 0 0 0 n

unfoldable pub timed : Settings → List Input → List Mark → Sheet
timed s inputs marks = record { start = fresh s; inputs = inputs; marks = marks }

-- Rules 1.6, 2.3: a fresh record before any scan, and what rises
unfoldable pub start_sheets : List Sheet
start_sheets =
    sheet wired [] (sure ≔ 0 ∷ sum ≔ 0 ∷ pulse ≔ 0 ∷ previous ≔ 0 ∷ line 2 0 0 0 0 0)
    -- a bit that is 1 in the first scan has risen; one that is held has not
    ∷ sheet wired (17 ∷ []) (command ≔ 1 ∷ [])
    ∷ sheet wired (16 ∷ 4112 ∷ 4128 ∷ []) (command ≔ 0 ∷ flags ≔ 8 ∷ [])
    -- rule 3.10: the word becomes the previous word
    ∷ sheet wired (32 ∷ 4128 ∷ []) (previous ≔ 4128 ∷ [])
    ∷ []

-- Rule 3.1
unfoldable pub reset_sheets : List Sheet
reset_sheets =
    -- Reset clears by its level, also while it is held, up to flag 13; in local mode too
    sheet wired (65568 ∷ 65552 ∷ 65552 ∷ []) (line 2 2 0 0 0 0)
    ∷ sheet (wiring 193 0 0 300) (32 ∷ 4128 ∷ 32 ∷ 65568 ∷ []) (flags ≔ 0 ∷ [])
    ∷ sheet wired (32 ∷ 16 ∷ 65554 ∷ []) (flags ≔ 0 ∷ [])
    -- it clears before rule 3.2 sets flag 2, and bars no command
    ∷ sheet wired (32 ∷ 65552 ∷ []) (flags ≔ 4 ∷ [])
    ∷ sheet wired (32 ∷ 69664 ∷ []) (command ≔ 7 ∷ [])
    -- an end is that of one scan
    ∷ sheet wired (32 ∷ 4128 ∷ 16 ∷ 16 ∷ []) (end ≔ 0 ∷ [])
    ∷ []

-- Rule 3.2
unfoldable pub switch_sheets : List Sheet
switch_sheets =
    -- from On to Off; with OPS_1 bit 0 = 0 the On switch alone, open or closed
    sheet wired (16 ∷ 32 ∷ []) (line 2 1 0 0 0 8)
    ∷ sheet (wiring 192 0 500 300) (48 ∷ []) (line 2 2 0 0 0 0)
    ∷ sheet (wiring 192 0 500 300) (0 ∷ []) (line 2 1 0 0 0 0)
    ∷ sheet (wiring 192 0 500 300) (16 ∷ 32 ∷ []) (position ≔ 1 ∷ sure ≔ 1 ∷ flags ≔ 8 ∷ [])
    -- the last sure position pretended, if there is one
    ∷ sheet (wiring 193 4 500 300) (32 ∷ 48 ∷ []) (line 2 1 0 0 0 16386)
    ∷ sheet (wiring 193 4 500 300) (16 ∷ 48 ∷ []) (position ≔ 2 ∷ [])
    ∷ sheet (wiring 193 4 500 300) (48 ∷ []) (position ≔ 0 ∷ [])
    ∷ sheet (wiring 193 20 500 300) (32 ∷ 48 ∷ []) (position ≔ 1 ∷ [])
    -- the position that OPS_2 says, also where another was sure before
    ∷ sheet (wiring 193 28 500 300) (32 ∷ 48 ∷ []) (position ≔ 2 ∷ sure ≔ 1 ∷ [])
    ∷ sheet (wiring 193 12 500 300) (16 ∷ 48 ∷ []) (position ≔ 1 ∷ sure ≔ 2 ∷ [])
    ∷ sheet (wiring 193 28 500 300) (32 ∷ 48 ∷ 48 ∷ []) (position ≔ 2 ∷ sure ≔ 1 ∷ [])
    ∷ sheet (wiring 193 12 500 300) (48 ∷ []) (position ≔ 1 ∷ sure ≔ 0 ∷ [])
    -- OPS_2 bits 3 and 4 count with bit 2 only; an unsure reading leaves the last sure position, and sets neither flag 2 nor flag 3
    ∷ sheet (wiring 193 24 500 300) (48 ∷ []) (position ≔ 0 ∷ [])
    ∷ sheet (wiring 193 4 500 300) (32 ∷ 48 ∷ 48 ∷ []) (position ≔ 1 ∷ [])
    ∷ sheet wired (32 ∷ 48 ∷ 16 ∷ []) (flags ≔ 4 ∷ [])
    ∷ sheet wired (16 ∷ 48 ∷ []) (position ≔ 0 ∷ sure ≔ 2 ∷ flags ≔ 16386 ∷ [])
    ∷ sheet wired (32 ∷ 0 ∷ []) (position ≔ 0 ∷ sure ≔ 1 ∷ flags ≔ 2 ∷ [])
    -- flags 2 and 3 go by the last sure position, and not by a pretended one
    ∷ sheet (wiring 193 28 500 300) (32 ∷ 48 ∷ 16 ∷ []) (flags ≔ 4 ∷ [])
    ∷ sheet (wiring 193 12 500 300) (16 ∷ 48 ∷ 32 ∷ []) (flags ≔ 8 ∷ [])
    ∷ sheet (wiring 193 28 500 300) (16 ∷ 48 ∷ 16 ∷ []) (flags ≔ 0 ∷ [])
    ∷ sheet (wiring 193 12 500 300) (16 ∷ 48 ∷ 16 ∷ []) (flags ≔ 0 ∷ [])
    -- flags 2 and 3 stay 0 where a command was under way as the scan began, also one that goes the other way
    ∷ sheet wired (16 ∷ 8208 ∷ 32 ∷ []) (line 2 1 0 1 0 0)
    ∷ sheet wired (32 ∷ 8240 ∷ 16 ∷ []) (command ≔ 6 ∷ sure ≔ 2 ∷ flags ≔ 0 ∷ [])
    ∷ sheet wired (16 ∷ 4144 ∷ 32 ∷ []) (command ≔ 7 ∷ sure ≔ 1 ∷ flags ≔ 0 ∷ [])
    -- both open is pretended too, in local mode, in Repair and while a command is under way as well; one switch is never unsure
    ∷ sheet (wiring 193 28 500 300) (0 ∷ []) (line 2 2 0 0 0 2)
    ∷ sheet (wiring 193 4 500 300) (32 ∷ 0 ∷ []) (line 2 1 0 0 0 2)
    ∷ sheet (wiring 193 28 500 300) (50 ∷ []) (line 2 2 0 0 0 0)
    ∷ sheet (wiring 193 4 500 300) (32 ∷ 544 ∷ 48 ∷ []) (line 0 1 0 0 0 16386)
    ∷ sheet (wiring 193 4 500 300) (32 ∷ 4128 ∷ 48 ∷ []) (line 2 1 7 0 1 0)
    ∷ sheet (wiring 193 4 500 300) (32 ∷ 4128 ∷ 288 ∷ 48 ∷ []) (line 2 1 2 0 2 32)
    ∷ sheet (wiring 192 12 500 300) (48 ∷ []) (line 2 2 0 0 0 0)
    -- flags 2 and 3 in local mode, in Repair, in Reserve, without supply, with an output out, and in the scan that issues
    ∷ sheet wired (32 ∷ 18 ∷ []) (line 2 2 0 0 0 4)
    ∷ sheet wired (32 ∷ 544 ∷ 16 ∷ []) (line 0 2 0 0 0 4)
    ∷ sheet wired (32 ∷ 1056 ∷ 16 ∷ []) (line 1 2 0 0 0 4)
    ∷ sheet (wiring 195 0 500 300) (32 ∷ 80 ∷ []) (flags ≔ 5 ∷ [])
    ∷ sheet (wiring 129 0 500 300) (32 ∷ 4128 ∷ 16 ∷ 32 ∷ 16 ∷ []) (line 2 2 0 0 1 12)
    ∷ sheet wired (32 ∷ 8208 ∷ []) (line 2 2 6 0 2 4)
    -- and not where a command ends overdue
    ∷ sheet (wiring 193 0 0 300) (32 ∷ 8240 ∷ 16 ∷ []) (line 2 2 0 3 0 4096)
    ∷ []

-- Rules 2.4, 3.3
unfoldable pub sum_sheets : List Sheet
sum_sheets =
    -- with U = 0 an output is held, also at a confirmation with OPS_1 bit 7, and with U = 1 a pulse; with bit 6 = 0 it is held
    sheet (wiring 193 0 500 0) (32 ∷ 4128 ∷ 32 ∷ 16 ∷ []) (line 2 2 0 1 1 0)
    ∷ sheet (wiring 193 0 500 1) (32 ∷ 4128 ∷ 32 ∷ []) (output ≔ 0 ∷ [])
    ∷ sheet (wiring 193 0 500 0) (16 ∷ 8208 ∷ 32 ∷ []) (line 2 1 0 1 2 0)
    ∷ sheet (wiring 129 0 500 300) (32 ∷ 4128 ∷ 32 ∷ 16 ∷ []) (output ≔ 1 ∷ pulse ≔ 0 ∷ [])
    -- no sum grows without a command and a pulse; a pulse runs on when the command has ended
    ∷ sheet wired (32 ∷ []) (sum ≔ 0 ∷ pulse ≔ 0 ∷ [])
    ∷ sheet (wiring 65 0 500 300) (32 ∷ 4128 ∷ 16 ∷ 16 ∷ []) (sum ≔ 0 ∷ pulse ≔ 200 ∷ line 2 2 0 0 1 0)
    ∷ sheet (wiring 65 0 500 300) (32 ∷ 4128 ∷ 16 ∷ 16 ∷ 16 ∷ []) (output ≔ 0 ∷ pulse ≔ 0 ∷ [])
    -- sums are 0 after the scan that issues; a period of any length counts whole
    ∷ sheet wired (32 ∷ 4128 ∷ []) (sum ≔ 0 ∷ pulse ≔ 0 ∷ [])
    ∷ timed (wiring 193 0 600000 600000) (32 for 1 ∷ 4128 for 10000 ∷ 32 for 10000 ∷ 32 for 1 ∷ []) (sum ≔ 10001 ∷ pulse ≔ 10001 ∷ [])
    -- local mode, its end, and the forbids stop neither sum and cancel nothing
    ∷ sheet wired (34 ∷ 38 ∷ 34 ∷ []) (command ≔ 5 ∷ sum ≔ 100 ∷ [])
    ∷ sheet wired (34 ∷ 38 ∷ 32 ∷ []) (command ≔ 5 ∷ sum ≔ 100 ∷ [])
    ∷ sheet wired (32 ∷ 4128 ∷ 49184 ∷ []) (command ≔ 7 ∷ sum ≔ 100 ∷ output ≔ 1 ∷ [])
    ∷ sheet wired (16 ∷ 8208 ∷ 49168 ∷ []) (command ≔ 6 ∷ output ≔ 2 ∷ [])
    ∷ []

-- Rule 3.4
unfoldable pub end_sheets : List Sheet
end_sheets =
    -- the reading confirms, and not the position that OPS_2 pretends (a favourite error)
    sheet (wiring 193 28 500 300) (32 ∷ 4128 ∷ 48 ∷ []) (line 2 2 7 0 1 0)
    -- each command is confirmed by its direction (KO off: see flags 2 and 3; LZ off, KO on: a sheet of docs/RULES.md)
    ∷ sheet wired (16 ∷ 17 ∷ 32 ∷ []) (line 2 1 0 1 0 64)
    ∷ sheet wired (32 ∷ 160 ∷ 16 ∷ []) (line 2 2 0 1 0 16)
    ∷ sheet wired (16 ∷ 26 ∷ 34 ∷ []) (line 2 1 0 1 0 0)
    ∷ sheet wired (34 ∷ 38 ∷ 18 ∷ []) (line 2 2 0 1 0 0)
    -- and its flag set where it is overdue
    ∷ sheet (wiring 193 0 0 300) (16 ∷ 17 ∷ 16 ∷ []) (line 2 2 0 3 0 192)
    ∷ sheet (wiring 193 0 0 300) (16 ∷ 272 ∷ 16 ∷ []) (line 2 2 0 3 0 288)
    ∷ sheet (wiring 193 0 0 300) (32 ∷ 160 ∷ 32 ∷ []) (line 2 1 0 3 0 528)
    ∷ sheet (wiring 193 0 0 300) (18 ∷ 26 ∷ 18 ∷ []) (line 2 2 0 3 0 1024)
    ∷ sheet (wiring 193 0 0 300) (34 ∷ 38 ∷ 34 ∷ []) (line 2 1 0 3 0 2048)
    ∷ sheet (wiring 193 0 0 300) (16 ∷ 8208 ∷ 16 ∷ []) (line 2 2 0 3 0 4096)
    -- W 401 is not up after 400; U 201 not after 200
    ∷ sheet (wiring 193 0 401 201) (32 ∷ 4128 ∷ 32 ∷ 32 ∷ 32 ∷ 32 ∷ []) (command ≔ 7 ∷ end ≔ 0 ∷ [])
    ∷ sheet (wiring 193 0 500 201) (32 ∷ 4128 ∷ 32 ∷ 32 ∷ []) (output ≔ 1 ∷ [])
    -- a command that ends leaves sum 0, a pulse that drops leaves pulse sum 0
    ∷ sheet wired (32 ∷ 4128 ∷ 32 ∷ 16 ∷ []) (sum ≔ 0 ∷ pulse ≔ 0 ∷ [])
    ∷ sheet (wiring 193 0 0 300) (32 ∷ 4128 ∷ 32 ∷ []) (sum ≔ 0 ∷ pulse ≔ 0 ∷ [])
    ∷ sheet wired (32 ∷ 4128 ∷ 32 ∷ []) (sum ≔ 100 ∷ pulse ≔ 100 ∷ [])
    -- a held output stays when its command is overdue (a favourite error), or confirmed
    ∷ sheet (wiring 129 0 500 300) (32 ∷ 4128 ∷ 32 ∷ 32 ∷ 32 ∷ 32 ∷ 32 ∷ []) (line 2 1 0 3 1 8192)
    ∷ sheet (wiring 129 0 500 300) (32 ∷ 4128 ∷ 16 ∷ []) (line 2 2 0 1 1 0)
    -- a pulse drops when its sum comes to U, or its command is overdue; at a confirmation not without OPS_1 bit 7
    ∷ sheet wired (32 ∷ 4128 ∷ 32 ∷ 32 ∷ 32 ∷ []) (output ≔ 0 ∷ pulse ≔ 0 ∷ [])
    ∷ sheet (wiring 193 0 100 300) (32 ∷ 4128 ∷ 32 ∷ []) (line 2 1 0 3 0 8192)
    ∷ sheet (wiring 65 0 500 300) (32 ∷ 4128 ∷ 16 ∷ []) (line 2 2 0 1 1 0)
    -- a command that is confirmed as its time is up is not overdue
    ∷ sheet (wiring 65 0 100 300) (32 ∷ 4128 ∷ 16 ∷ []) (line 2 2 0 1 1 0)
    -- an overdue command drops its pulse without OPS_1 bit 7 too, and no output where U = 0; one switch confirms
    ∷ sheet (wiring 65 0 100 300) (32 ∷ 4128 ∷ 32 ∷ []) (line 2 1 0 3 0 8192)
    ∷ sheet (wiring 193 0 0 0) (32 ∷ 4128 ∷ 32 ∷ []) (line 2 1 0 3 1 8192)
    ∷ sheet (wiring 192 0 500 300) (0 ∷ 4096 ∷ 48 ∷ []) (line 2 2 0 1 0 0)
    -- a confirmation clears no flag, and needs no supply
    ∷ sheet (wiring 193 0 100 300) (32 ∷ 4128 ∷ 32 ∷ 4128 ∷ 16 ∷ []) (line 2 2 0 1 0 8192)
    ∷ sheet wired (32 ∷ 16 ∷ 8208 ∷ 32 ∷ []) (line 2 1 0 1 0 4)
    ∷ sheet (wiring 195 0 500 300) (32 ∷ 4128 ∷ 80 ∷ []) (line 2 2 0 1 0 1)
    ∷ []

-- Rule 3.5
unfoldable pub fault_sheets : List Sheet
fault_sheets =
    -- no supply, outside local mode and in it; it goes as supply is back, or local mode begins
    sheet (wiring 195 0 500 300) (96 ∷ []) (line 2 1 0 0 0 1)
    ∷ sheet (wiring 195 0 500 300) (98 ∷ []) (line 2 1 0 0 0 0)
    ∷ sheet (wiring 195 2 500 300) (98 ∷ []) (line 2 1 0 0 0 1)
    ∷ sheet (wiring 195 0 500 300) (96 ∷ 32 ∷ []) (flags ≔ 0 ∷ [])
    ∷ sheet (wiring 195 0 500 300) (96 ∷ 98 ∷ []) (flags ≔ 0 ∷ [])
    -- it counts with OPS_1 bit 1 only, also while a command is under way; OPS_1 bit 2 forms the flags in local mode
    ∷ sheet (wiring 195 0 500 300) (80 ∷ []) (flags ≔ 1 ∷ [])
    ∷ sheet wired (96 ∷ []) (flags ≔ 0 ∷ [])
    ∷ sheet (wiring 195 0 500 300) (32 ∷ []) (flags ≔ 0 ∷ [])
    ∷ sheet (wiring 199 0 500 300) (98 ∷ []) (flags ≔ 1 ∷ [])
    ∷ sheet (wiring 195 0 500 300) (32 ∷ 4128 ∷ 96 ∷ []) (command ≔ 7 ∷ sum ≔ 100 ∷ output ≔ 1 ∷ flags ≔ 1 ∷ [])
    -- both open is flag 1 alone, both closed is flags 1 and 14; flag 14 goes when they open, and when the reading becomes sure
    ∷ sheet wired (0 ∷ []) (line 2 0 0 0 0 2)
    ∷ sheet wired (0 ∷ 48 ∷ []) (flags ≔ 16386 ∷ [])
    ∷ sheet wired (48 ∷ 0 ∷ []) (flags ≔ 2 ∷ [])
    ∷ sheet wired (48 ∷ 32 ∷ []) (flags ≔ 0 ∷ [])
    -- neither while a command is under way; both in the scan in which it ends overdue
    ∷ sheet wired (32 ∷ 4128 ∷ 48 ∷ []) (command ≔ 7 ∷ flags ≔ 0 ∷ [])
    ∷ sheet (wiring 193 0 0 300) (32 ∷ 4128 ∷ 48 ∷ []) (end ≔ 3 ∷ flags ≔ 24578 ∷ [])
    -- a switch fault is formed in local mode with OPS_2 bit 1, or with OPS_1 bit 2, only
    ∷ sheet wired (50 ∷ []) (flags ≔ 0 ∷ [])
    ∷ sheet wired (48 ∷ 50 ∷ []) (flags ≔ 0 ∷ [])
    ∷ sheet (wiring 193 2 500 300) (50 ∷ []) (flags ≔ 16386 ∷ [])
    ∷ sheet (wiring 193 2 500 300) (2 ∷ []) (flags ≔ 2 ∷ [])
    ∷ sheet (wiring 197 0 500 300) (50 ∷ []) (flags ≔ 16386 ∷ [])
    -- a flag 1 that stands goes as a command is under way; both are formed in Repair too
    ∷ sheet wired (48 ∷ 4144 ∷ 48 ∷ []) (line 2 0 7 0 1 0)
    ∷ sheet (wiring 195 0 500 300) (32 ∷ 544 ∷ 112 ∷ []) (line 0 0 0 0 0 16387)
    ∷ []

-- Rule 3.6
unfoldable pub mode_sheets : List Sheet
mode_sheets =
    -- from each mode to each other
    sheet wired (32 ∷ 1056 ∷ []) (mode ≔ 1 ∷ [])
    ∷ sheet wired (32 ∷ 1056 ∷ 32 ∷ 544 ∷ []) (mode ≔ 0 ∷ [])
    ∷ sheet wired (32 ∷ 1056 ∷ 32 ∷ 2080 ∷ []) (mode ≔ 2 ∷ [])
    ∷ sheet wired (32 ∷ 544 ∷ 32 ∷ 1056 ∷ []) (mode ≔ 1 ∷ [])
    ∷ sheet wired (32 ∷ 544 ∷ 32 ∷ 2080 ∷ []) (mode ≔ 2 ∷ [])
    -- by one bit alone, of those that rise
    ∷ sheet wired (32 ∷ 1568 ∷ []) (mode ≔ 2 ∷ [])
    ∷ sheet wired (32 ∷ 544 ∷ 32 ∷ 3104 ∷ []) (mode ≔ 0 ∷ [])
    ∷ sheet wired (32 ∷ 544 ∷ 32 ∷ 3616 ∷ []) (mode ≔ 0 ∷ [])
    ∷ sheet wired (34 ∷ 546 ∷ 1568 ∷ []) (mode ≔ 1 ∷ [])
    -- a bit that rose in local mode asks for nothing there, nor afterwards
    ∷ sheet wired (34 ∷ 546 ∷ []) (mode ≔ 2 ∷ [])
    ∷ sheet wired (34 ∷ 1058 ∷ []) (mode ≔ 2 ∷ [])
    ∷ sheet wired (34 ∷ 1058 ∷ 1056 ∷ []) (mode ≔ 2 ∷ [])
    ∷ sheet wired (32 ∷ 544 ∷ 34 ∷ 2082 ∷ []) (mode ≔ 0 ∷ [])
    -- not while a command is under way, but in the scan that ends it
    ∷ sheet wired (32 ∷ 4128 ∷ 544 ∷ []) (mode ≔ 2 ∷ [])
    ∷ sheet wired (32 ∷ 1056 ∷ 32 ∷ 4128 ∷ 2080 ∷ []) (mode ≔ 1 ∷ [])
    ∷ sheet wired (16 ∷ 8208 ∷ 1056 ∷ []) (mode ≔ 1 ∷ end ≔ 1 ∷ [])
    -- not while a bit of the seven commands rises, though it is barred; one that is held does not matter
    ∷ sheet wired (32 ∷ 1057 ∷ []) (mode ≔ 2 ∷ [])
    ∷ sheet wired (32 ∷ 1312 ∷ []) (mode ≔ 2 ∷ [])
    ∷ sheet wired (32 ∷ 1184 ∷ []) (mode ≔ 2 ∷ command ≔ 3 ∷ [])
    ∷ sheet wired (32 ∷ 1064 ∷ []) (mode ≔ 2 ∷ [])
    ∷ sheet wired (32 ∷ 1060 ∷ []) (mode ≔ 2 ∷ [])
    ∷ sheet wired (32 ∷ 9248 ∷ []) (mode ≔ 2 ∷ [])
    ∷ sheet wired (32 ∷ 5152 ∷ []) (mode ≔ 2 ∷ [])
    ∷ sheet (wiring 193 0 0 300) (32 ∷ 4128 ∷ 4128 ∷ 5152 ∷ []) (mode ≔ 1 ∷ [])
    -- Repair and Reserve at Off only, also a pretended one; Work anywhere
    ∷ sheet wired (16 ∷ 528 ∷ []) (mode ≔ 2 ∷ [])
    ∷ sheet wired (16 ∷ 1040 ∷ []) (mode ≔ 2 ∷ [])
    ∷ sheet wired (48 ∷ 560 ∷ []) (mode ≔ 2 ∷ [])
    ∷ sheet (wiring 193 12 500 300) (48 ∷ 560 ∷ []) (mode ≔ 0 ∷ [])
    ∷ sheet wired (32 ∷ 544 ∷ 16 ∷ 2064 ∷ []) (mode ≔ 2 ∷ [])
    -- Reserve not without supply, unless OPS_1 bit 14 lets it; Repair and Work all the same
    ∷ sheet (wiring 195 0 500 300) (32 ∷ 1120 ∷ []) (mode ≔ 2 ∷ [])
    ∷ sheet (wiring 8387 0 500 300) (32 ∷ 1120 ∷ []) (mode ≔ 2 ∷ [])
    ∷ sheet (wiring 16579 0 500 300) (32 ∷ 1120 ∷ []) (mode ≔ 1 ∷ [])
    ∷ sheet (wiring 195 0 500 300) (32 ∷ 608 ∷ []) (mode ≔ 0 ∷ [])
    ∷ sheet (wiring 195 0 500 300) (32 ∷ 544 ∷ 96 ∷ 2144 ∷ []) (mode ≔ 2 ∷ [])
    -- Reserve not with a switch fault, unless OPS_1 bit 13 lets it; other flags do not matter, and Work asks for none of it
    ∷ sheet (wiring 193 12 500 300) (48 ∷ 1072 ∷ []) (mode ≔ 2 ∷ [])
    ∷ sheet (wiring 16577 12 500 300) (48 ∷ 1072 ∷ []) (mode ≔ 2 ∷ [])
    ∷ sheet (wiring 8385 12 500 300) (48 ∷ 1072 ∷ []) (mode ≔ 1 ∷ [])
    ∷ sheet (wiring 193 12 500 300) (0 ∷ 1024 ∷ []) (mode ≔ 2 ∷ flags ≔ 2 ∷ [])
    ∷ sheet wired (32 ∷ 16 ∷ 32 ∷ 1056 ∷ []) (mode ≔ 1 ∷ flags ≔ 12 ∷ [])
    ∷ sheet wired (32 ∷ 544 ∷ 48 ∷ 2096 ∷ []) (mode ≔ 2 ∷ [])
    -- a rise that acknowledges, and one that Repair bars, keeps the mode; the position counts, and not the last sure one
    ∷ sheet (wiring 32961 0 500 300) (16 ∷ 272 ∷ 32 ∷ 9248 ∷ []) (line 2 1 0 0 0 0)
    ∷ sheet wired (32 ∷ 544 ∷ 2208 ∷ []) (mode ≔ 0 ∷ command ≔ 0 ∷ [])
    ∷ sheet wired (32 ∷ 560 ∷ []) (mode ≔ 2 ∷ [])
    -- an output stays out in Repair; SMA that is held, forbid off and Reset do not matter; flags count as formed in this scan
    ∷ sheet (wiring 129 0 500 300) (32 ∷ 4128 ∷ 16 ∷ 32 ∷ 544 ∷ []) (line 0 1 0 0 1 8)
    ∷ sheet wired (33 ∷ 33313 ∷ []) (mode ≔ 0 ∷ [])
    ∷ sheet wired (32 ∷ 66592 ∷ []) (mode ≔ 1 ∷ [])
    ∷ sheet wired (32 ∷ 544 ∷ 65568 ∷ []) (mode ≔ 0 ∷ [])
    ∷ sheet (wiring 195 0 500 300) (96 ∷ 1056 ∷ []) (mode ≔ 1 ∷ [])
    ∷ sheet (wiring 193 12 500 300) (48 ∷ 1056 ∷ []) (mode ≔ 1 ∷ [])
    ∷ []

-- Rule 3.7
unfoldable pub acknowledging_sheets : List Sheet
acknowledging_sheets =
    -- the rise of KO off acknowledges, and is no command; without OPS_1 bit 15 it is one
    sheet (wiring 32961 0 0 300) (16 ∷ 272 ∷ 16 ∷ 8208 ∷ []) (previous ≔ 8208 ∷ line 2 2 0 0 0 256)
    ∷ sheet (wiring 193 0 0 300) (16 ∷ 272 ∷ 16 ∷ 8208 ∷ []) (command ≔ 6 ∷ [])
    -- the rise of KO on acknowledges, and is no command; with OPS_2 bit 0 only
    ∷ sheet (wiring 193 1 0 300) (32 ∷ 160 ∷ 32 ∷ 4128 ∷ []) (line 2 1 0 0 0 512)
    ∷ sheet (wiring 193 0 0 300) (32 ∷ 160 ∷ 32 ∷ 4128 ∷ []) (command ≔ 7 ∷ flags ≔ 528 ∷ [])
    -- flag 6 alone is enough, and an overdue flag stays; both clear; flag 4 stays without a rise of KO on, and flag 5 where KO off is held
    ∷ sheet (wiring 32961 0 500 300) (16 ∷ 17 ∷ 32 ∷ 16 ∷ 8208 ∷ []) (command ≔ 0 ∷ flags ≔ 4 ∷ [])
    ∷ sheet (wiring 32961 0 0 300) (16 ∷ 17 ∷ 16 ∷ 8208 ∷ []) (line 2 2 0 0 0 128)
    ∷ sheet (wiring 193 1 500 300) (32 ∷ 160 ∷ 32 ∷ []) (flags ≔ 16 ∷ [])
    ∷ sheet (wiring 32961 0 500 300) (16 ∷ 272 ∷ 17 ∷ 32 ∷ 8224 ∷ []) (flags ≔ 0 ∷ [])
    ∷ sheet (wiring 32961 0 0 300) (16 ∷ 8208 ∷ 8208 ∷ 8464 ∷ 8208 ∷ []) (flags ≔ 4384 ∷ [])
    -- without a flag to acknowledge KO off and KO on are commands; in local mode nothing is acknowledged
    ∷ sheet (wiring 32961 0 500 300) (16 ∷ 8208 ∷ []) (command ≔ 6 ∷ [])
    ∷ sheet (wiring 193 1 500 300) (32 ∷ 4128 ∷ []) (command ≔ 7 ∷ [])
    ∷ sheet (wiring 32961 0 0 300) (16 ∷ 272 ∷ 16 ∷ 8210 ∷ []) (command ≔ 0 ∷ flags ≔ 288 ∷ [])
    ∷ sheet (wiring 193 1 0 300) (32 ∷ 160 ∷ 32 ∷ 4130 ∷ []) (command ≔ 0 ∷ flags ≔ 528 ∷ [])
    -- in Repair too, and while a command is under way
    ∷ sheet (wiring 32961 0 500 300) (16 ∷ 272 ∷ 32 ∷ 544 ∷ 8224 ∷ []) (mode ≔ 0 ∷ flags ≔ 0 ∷ [])
    ∷ sheet (wiring 193 1 0 300) (32 ∷ 160 ∷ 32 ∷ 544 ∷ 4128 ∷ []) (mode ≔ 0 ∷ flags ≔ 512 ∷ [])
    ∷ sheet (wiring 32961 0 500 300) (16 ∷ 272 ∷ 8208 ∷ []) (command ≔ 2 ∷ flags ≔ 0 ∷ [])
    ∷ sheet (wiring 193 1 500 300) (32 ∷ 160 ∷ 4128 ∷ []) (command ≔ 3 ∷ flags ≔ 0 ∷ [])
    -- only that rise is no command: another goes in the same scan
    ∷ sheet (wiring 193 1 0 300) (32 ∷ 160 ∷ 32 ∷ 4256 ∷ []) (command ≔ 3 ∷ flags ≔ 528 ∷ previous ≔ 4256 ∷ [])
    ∷ sheet (wiring 32961 0 0 300) (16 ∷ 272 ∷ 16 ∷ 8464 ∷ []) (command ≔ 2 ∷ flags ≔ 288 ∷ [])
    ∷ sheet (wiring 32961 0 0 300) (16 ∷ 272 ∷ 16 ∷ 32 ∷ 12320 ∷ []) (command ≔ 7 ∷ flags ≔ 264 ∷ [])
    ∷ sheet (wiring 193 1 500 300) (32 ∷ 160 ∷ 16 ∷ 12304 ∷ []) (command ≔ 6 ∷ flags ≔ 0 ∷ [])
    -- Reset comes first: what it has cleared is not acknowledged
    ∷ sheet (wiring 32961 0 0 300) (16 ∷ 272 ∷ 16 ∷ 73744 ∷ []) (line 2 2 6 0 2 0)
    -- forbids, flag 0, reading, position, an end in the same scan, Reserve and local mode before do not matter
    ∷ sheet (wiring 32963 0 0 300) (16 ∷ 272 ∷ 16 ∷ 41040 ∷ []) (line 2 2 0 0 0 257)
    ∷ sheet (wiring 195 1 0 300) (32 ∷ 160 ∷ 32 ∷ 20576 ∷ []) (line 2 1 0 0 0 513)
    ∷ sheet (wiring 193 1 500 300) (32 ∷ 160 ∷ 16 ∷ 4112 ∷ []) (line 2 2 0 0 0 0)
    ∷ sheet (wiring 32961 0 0 300) (16 ∷ 272 ∷ 16 ∷ 8192 ∷ []) (line 2 0 0 0 0 258)
    ∷ sheet (wiring 32961 0 500 300) (16 ∷ 272 ∷ 8224 ∷ []) (line 2 1 0 1 0 0)
    ∷ sheet (wiring 32961 0 500 300) (16 ∷ 272 ∷ 32 ∷ 1056 ∷ 8224 ∷ []) (mode ≔ 1 ∷ flags ≔ 0 ∷ [])
    ∷ sheet (wiring 32961 0 500 300) (16 ∷ 272 ∷ 34 ∷ 8224 ∷ []) (command ≔ 0 ∷ flags ≔ 0 ∷ [])
    ∷ []

-- Rule 3.8
unfoldable pub choice_sheets : List Sheet
choice_sheets =
    -- LZ off is chosen before LZ on, though it does not displace KO off (a favourite error)
    sheet wired (16 ∷ 8208 ∷ 400 ∷ []) (line 2 2 6 0 2 0)
    -- in Repair every command is barred, in Reserve none
    ∷ sheet wired (32 ∷ 544 ∷ 4128 ∷ []) (mode ≔ 0 ∷ command ≔ 0 ∷ [])
    ∷ sheet wired (32 ∷ 544 ∷ 160 ∷ []) (command ≔ 0 ∷ previous ≔ 160 ∷ [])
    ∷ sheet wired (32 ∷ 544 ∷ 34 ∷ 38 ∷ []) (command ≔ 0 ∷ [])
    ∷ sheet wired (32 ∷ 544 ∷ 16 ∷ 17 ∷ []) (command ≔ 0 ∷ [])
    ∷ sheet wired (32 ∷ 544 ∷ 16 ∷ 272 ∷ []) (command ≔ 0 ∷ [])
    ∷ sheet wired (32 ∷ 1056 ∷ 32 ∷ 160 ∷ []) (mode ≔ 1 ∷ command ≔ 3 ∷ [])
    -- in local mode KO, outside it MU; the others in both
    ∷ sheet wired (32 ∷ 4130 ∷ []) (command ≔ 0 ∷ previous ≔ 4130 ∷ [])
    ∷ sheet wired (16 ∷ 8210 ∷ []) (command ≔ 0 ∷ [])
    ∷ sheet wired (32 ∷ 36 ∷ []) (command ≔ 0 ∷ previous ≔ 36 ∷ [])
    ∷ sheet wired (16 ∷ 24 ∷ []) (command ≔ 0 ∷ [])
    ∷ sheet wired (16 ∷ 274 ∷ []) (command ≔ 2 ∷ [])
    ∷ sheet wired (34 ∷ 162 ∷ []) (command ≔ 3 ∷ [])
    ∷ sheet wired (18 ∷ 19 ∷ []) (command ≔ 1 ∷ [])
    -- forbid on bars KO on, and LZ on and MU on with OPS_1 bit 5; not only as it rises; no off command
    ∷ sheet wired (32 ∷ 20512 ∷ []) (command ≔ 0 ∷ [])
    ∷ sheet wired (16416 ∷ 20512 ∷ []) (command ≔ 0 ∷ [])
    ∷ sheet wired (32 ∷ 16544 ∷ []) (command ≔ 3 ∷ [])
    ∷ sheet (wiring 225 0 500 300) (32 ∷ 16544 ∷ []) (command ≔ 0 ∷ [])
    ∷ sheet wired (34 ∷ 16422 ∷ []) (command ≔ 5 ∷ [])
    ∷ sheet (wiring 225 0 500 300) (34 ∷ 16422 ∷ []) (command ≔ 0 ∷ [])
    ∷ sheet (wiring 225 0 500 300) (16 ∷ 16656 ∷ []) (command ≔ 2 ∷ [])
    ∷ sheet (wiring 225 0 500 300) (16 ∷ 24592 ∷ []) (command ≔ 6 ∷ [])
    -- forbid off bars KO off, and LZ off and MU off with OPS_1 bit 4; not only as it rises; SMA never, and no on command
    ∷ sheet wired (16 ∷ 40976 ∷ []) (command ≔ 0 ∷ [])
    ∷ sheet wired (32784 ∷ 40976 ∷ []) (command ≔ 0 ∷ [])
    ∷ sheet wired (16 ∷ 33040 ∷ []) (command ≔ 2 ∷ [])
    ∷ sheet (wiring 209 0 500 300) (16 ∷ 33040 ∷ []) (command ≔ 0 ∷ [])
    ∷ sheet wired (16 ∷ 32794 ∷ []) (command ≔ 4 ∷ [])
    ∷ sheet (wiring 209 0 500 300) (16 ∷ 32794 ∷ []) (command ≔ 0 ∷ [])
    ∷ sheet (wiring 209 0 500 300) (16 ∷ 32785 ∷ []) (command ≔ 1 ∷ [])
    ∷ sheet (wiring 209 0 500 300) (32 ∷ 32928 ∷ []) (command ≔ 3 ∷ [])
    ∷ sheet (wiring 209 0 500 300) (32 ∷ 36896 ∷ []) (command ≔ 7 ∷ [])
    -- flag 0 bars on commands, not off commands, and the input alone bars none; flag 1 bars none
    ∷ sheet (wiring 195 0 500 300) (96 ∷ 224 ∷ []) (command ≔ 0 ∷ flags ≔ 1 ∷ [])
    ∷ sheet (wiring 195 0 500 300) (16 ∷ 336 ∷ []) (command ≔ 2 ∷ [])
    ∷ sheet wired (48 ∷ 176 ∷ []) (command ≔ 3 ∷ flags ≔ 16402 ∷ [])
    ∷ sheet (wiring 195 0 500 300) (96 ∷ 4192 ∷ []) (command ≔ 0 ∷ [])
    ∷ sheet (wiring 195 2 500 300) (98 ∷ 102 ∷ []) (command ≔ 0 ∷ [])
    ∷ sheet (wiring 195 0 500 300) (98 ∷ 102 ∷ []) (command ≔ 5 ∷ [])
    ∷ sheet wired (96 ∷ 224 ∷ []) (command ≔ 3 ∷ output ≔ 1 ∷ [])
    -- what is barred does not displace either
    ∷ sheet (wiring 195 0 500 300) (16 ∷ 8208 ∷ 208 ∷ []) (command ≔ 6 ∷ end ≔ 0 ∷ flags ≔ 1 ∷ [])
    ∷ sheet (wiring 225 0 500 300) (16 ∷ 8208 ∷ 16528 ∷ []) (command ≔ 6 ∷ end ≔ 0 ∷ [])
    ∷ sheet (wiring 209 0 500 300) (32 ∷ 4128 ∷ 33056 ∷ []) (command ≔ 7 ∷ end ≔ 0 ∷ [])
    ∷ sheet wired (32 ∷ 4128 ∷ 40 ∷ []) (command ≔ 7 ∷ end ≔ 0 ∷ [])
    -- where none is under way, not if the position is its direction: a pretended one counts, the last sure one does not
    ∷ sheet wired (16 ∷ 4112 ∷ []) (command ≔ 0 ∷ [])
    ∷ sheet wired (32 ∷ 8224 ∷ []) (command ≔ 0 ∷ [])
    ∷ sheet wired (32 ∷ 8192 ∷ []) (command ≔ 6 ∷ [])
    ∷ sheet wired (16 ∷ 4096 ∷ []) (command ≔ 7 ∷ [])
    ∷ sheet (wiring 193 28 500 300) (48 ∷ 4144 ∷ []) (command ≔ 0 ∷ [])
    ∷ sheet (wiring 193 12 500 300) (48 ∷ 8240 ∷ []) (command ≔ 0 ∷ [])
    -- each displaces a weaker one of the other direction, and SMA any but itself
    ∷ sheet wired (32 ∷ 4128 ∷ 8224 ∷ []) (line 2 1 6 2 2 0)
    ∷ sheet wired (16 ∷ 8208 ∷ 22 ∷ []) (command ≔ 5 ∷ end ≔ 2 ∷ [])
    ∷ sheet wired (34 ∷ 38 ∷ 42 ∷ []) (command ≔ 4 ∷ end ≔ 2 ∷ [])
    ∷ sheet wired (18 ∷ 26 ∷ 146 ∷ []) (command ≔ 3 ∷ end ≔ 2 ∷ flags ≔ 16 ∷ [])
    ∷ sheet wired (32 ∷ 160 ∷ 288 ∷ []) (command ≔ 2 ∷ end ≔ 2 ∷ [])
    ∷ sheet wired (32 ∷ 160 ∷ 33 ∷ []) (line 2 1 1 2 0 64)
    ∷ sheet wired (16 ∷ 272 ∷ 17 ∷ []) (line 2 2 1 2 2 96)
    ∷ sheet wired (16 ∷ 17 ∷ 16 ∷ 17 ∷ []) (command ≔ 1 ∷ end ≔ 0 ∷ [])
    -- none a stronger one, nor one of its own direction
    ∷ sheet wired (16 ∷ 272 ∷ 4112 ∷ []) (command ≔ 2 ∷ end ≔ 0 ∷ [])
    ∷ sheet wired (32 ∷ 4128 ∷ 38 ∷ []) (command ≔ 7 ∷ end ≔ 0 ∷ [])
    ∷ sheet wired (16 ∷ 8208 ∷ 272 ∷ []) (command ≔ 6 ∷ end ≔ 0 ∷ [])
    ∷ sheet wired (32 ∷ 160 ∷ 8224 ∷ []) (command ≔ 3 ∷ end ≔ 0 ∷ [])
    -- barred first, and of what is left the strongest
    ∷ sheet wired (16 ∷ 8216 ∷ []) (command ≔ 6 ∷ [])
    ∷ sheet (wiring 225 0 500 300) (16 ∷ 24720 ∷ []) (command ≔ 6 ∷ [])
    -- the position is asked of the chosen one alone, and of SMA too
    ∷ sheet wired (32 ∷ 416 ∷ []) (line 2 1 0 0 0 0)
    ∷ sheet wired (32 ∷ 161 ∷ []) (line 2 1 0 0 0 0)
    ∷ sheet (wiring 129 0 500 300) (32 ∷ 4128 ∷ 16 ∷ 32 ∷ 33 ∷ []) (line 2 1 0 0 1 8)
    ∷ sheet wired (34 ∷ 42 ∷ []) (command ≔ 0 ∷ [])
    ∷ sheet (wiring 193 4 500 300) (32 ∷ 8240 ∷ []) (command ≔ 0 ∷ [])
    -- and not where one is under way; KO on displaces none
    ∷ sheet wired (16 ∷ 8208 ∷ 4112 ∷ []) (command ≔ 6 ∷ end ≔ 0 ∷ [])
    ∷ sheet (wiring 193 12 500 300) (32 ∷ 4128 ∷ 304 ∷ []) (line 2 1 2 2 2 32)
    -- a stronger bit that is held bars nothing; local mode and the forbids are those of this scan
    ∷ sheet wired (16 ∷ 17 ∷ 33 ∷ 161 ∷ []) (line 2 1 3 0 1 16)
    ∷ sheet wired (16 ∷ 272 ∷ 288 ∷ 416 ∷ []) (line 2 1 3 0 1 16)
    ∷ sheet wired (34 ∷ 16418 ∷ 4128 ∷ []) (command ≔ 7 ∷ [])
    ∷ sheet wired (32784 ∷ 8208 ∷ []) (command ≔ 6 ∷ [])
    -- OPS_1 bit 3 has no effect; a command that is chosen and not issued clears no flag
    ∷ sheet (wiring 201 0 500 300) (48 ∷ 4144 ∷ []) (command ≔ 7 ∷ [])
    ∷ from (lent 0 0 0 0 112) (288 ∷ []) (command ≔ 0 ∷ flags ≔ 112 ∷ [])
    ∷ []

-- Rule 3.9
unfoldable pub issue_sheets : List Sheet
issue_sheets =
    -- SMA raises its output with OPS_1 bits 12 and 6 only; MU off, and MU on, with bit 2, off commands with bit 6
    sheet wired (16 ∷ 17 ∷ []) (line 2 2 1 0 0 64)
    ∷ sheet (wiring 4289 0 500 300) (16 ∷ 17 ∷ []) (line 2 2 1 0 2 64)
    ∷ sheet (wiring 4225 0 500 300) (16 ∷ 17 ∷ []) (output ≔ 0 ∷ [])
    ∷ sheet wired (16 ∷ 26 ∷ []) (command ≔ 4 ∷ output ≔ 0 ∷ [])
    ∷ sheet (wiring 197 0 500 300) (16 ∷ 26 ∷ []) (command ≔ 4 ∷ output ≔ 2 ∷ [])
    ∷ sheet (wiring 133 0 500 300) (16 ∷ 26 ∷ []) (output ≔ 0 ∷ [])
    ∷ sheet wired (32 ∷ 38 ∷ []) (command ≔ 5 ∷ output ≔ 0 ∷ [])
    ∷ sheet (wiring 197 0 500 300) (32 ∷ 38 ∷ []) (command ≔ 5 ∷ output ≔ 1 ∷ [])
    ∷ sheet (wiring 193 2 500 300) (32 ∷ 38 ∷ []) (command ≔ 5 ∷ output ≔ 0 ∷ [])
    ∷ sheet (wiring 65 0 500 300) (16 ∷ 272 ∷ []) (output ≔ 2 ∷ [])
    -- the opposite output drops, with its pulse sum, though the own one is not raised; the own one then stays as it is
    ∷ sheet (wiring 129 0 500 300) (32 ∷ 4128 ∷ 16 ∷ 272 ∷ []) (line 2 2 2 0 0 32)
    ∷ sheet (wiring 65 0 500 300) (32 ∷ 4128 ∷ 16 ∷ 17 ∷ []) (line 2 2 1 0 0 64)
    ∷ sheet wired (32 ∷ 4128 ∷ 32 ∷ 33 ∷ []) (command ≔ 1 ∷ sum ≔ 0 ∷ output ≔ 0 ∷ pulse ≔ 0 ∷ [])
    ∷ sheet wired (32 ∷ 4128 ∷ 42 ∷ []) (command ≔ 4 ∷ output ≔ 0 ∷ [])
    ∷ sheet (wiring 65 0 500 300) (16 ∷ 272 ∷ 32 ∷ 38 ∷ []) (command ≔ 5 ∷ output ≔ 0 ∷ [])
    ∷ sheet (wiring 129 0 500 300) (32 ∷ 4128 ∷ 16 ∷ 34 ∷ 38 ∷ []) (command ≔ 5 ∷ output ≔ 1 ∷ [])
    -- a pulse raised again starts anew, and so does the time of a command that displaces
    ∷ sheet (wiring 65 0 500 300) (32 ∷ 4128 ∷ 16 ∷ 4128 ∷ 32 ∷ []) (output ≔ 1 ∷ [])
    ∷ sheet wired (32 ∷ 4128 ∷ 32 ∷ 288 ∷ []) (sum ≔ 0 ∷ pulse ≔ 0 ∷ [])
    -- a command issued in the scan that ends another leaves that end
    ∷ sheet wired (32 ∷ 4128 ∷ 8208 ∷ []) (command ≔ 6 ∷ end ≔ 1 ∷ output ≔ 2 ∷ [])
    ∷ sheet (wiring 193 0 0 300) (32 ∷ 4128 ∷ 160 ∷ []) (command ≔ 3 ∷ end ≔ 3 ∷ [])
    -- an on command clears flags 5 and 6 and no other, an off command flag 4 and no other
    ∷ sheet wired (16 ∷ 272 ∷ 32 ∷ 160 ∷ []) (flags ≔ 16 ∷ [])
    ∷ sheet (wiring 193 0 0 300) (16 ∷ 17 ∷ 16 ∷ 32 ∷ 160 ∷ []) (flags ≔ 152 ∷ [])
    ∷ sheet wired (32 ∷ 160 ∷ 16 ∷ 272 ∷ []) (flags ≔ 32 ∷ [])
    ∷ sheet (wiring 193 0 0 300) (16 ∷ 272 ∷ 16 ∷ 32 ∷ 16 ∷ 8208 ∷ []) (flags ≔ 300 ∷ [])
    ∷ sheet (wiring 193 0 0 300) (16 ∷ 17 ∷ 16 ∷ 272 ∷ []) (flags ≔ 224 ∷ [])
    ∷ sheet wired (16 ∷ 272 ∷ 32 ∷ 38 ∷ []) (command ≔ 5 ∷ flags ≔ 0 ∷ [])
    ∷ sheet wired (32 ∷ 160 ∷ 16 ∷ 26 ∷ []) (command ≔ 4 ∷ flags ≔ 0 ∷ [])
    -- each of OPS_1 bits 8 to 11 turns Reserve to Work at its own command and no other
    ∷ sheet (wiring 449 0 500 300) (32 ∷ 1056 ∷ 32 ∷ 160 ∷ []) (mode ≔ 2 ∷ [])
    ∷ sheet (wiring 3777 0 500 300) (32 ∷ 1056 ∷ 32 ∷ 160 ∷ []) (mode ≔ 1 ∷ [])
    ∷ sheet (wiring 705 0 500 300) (32 ∷ 1056 ∷ 16 ∷ 272 ∷ []) (mode ≔ 2 ∷ [])
    ∷ sheet (wiring 3521 0 500 300) (32 ∷ 1056 ∷ 16 ∷ 272 ∷ []) (mode ≔ 1 ∷ [])
    ∷ sheet (wiring 3009 0 500 300) (32 ∷ 1056 ∷ 32 ∷ 4128 ∷ []) (mode ≔ 1 ∷ [])
    ∷ sheet (wiring 2241 0 500 300) (32 ∷ 1056 ∷ 16 ∷ 8208 ∷ []) (mode ≔ 2 ∷ [])
    ∷ sheet (wiring 1985 0 500 300) (32 ∷ 1056 ∷ 16 ∷ 8208 ∷ []) (mode ≔ 1 ∷ [])
    ∷ sheet (wiring 8129 0 500 300) (32 ∷ 1056 ∷ 16 ∷ 17 ∷ []) (mode ≔ 1 ∷ [])
    ∷ sheet (wiring 1217 0 500 300) (32 ∷ 1056 ∷ 32 ∷ 4128 ∷ []) (line 2 1 7 0 1 0)
    ∷ sheet wired (32 ∷ 1056 ∷ 32 ∷ 4128 ∷ []) (line 1 1 7 0 1 0)
    ∷ sheet (wiring 4033 0 500 300) (32 ∷ 1056 ∷ 34 ∷ 38 ∷ []) (mode ≔ 1 ∷ command ≔ 5 ∷ [])
    ∷ sheet (wiring 4033 0 500 300) (32 ∷ 1056 ∷ 18 ∷ 26 ∷ []) (mode ≔ 1 ∷ [])
    -- Reserve turns to Work not for a command that is only chosen, but in local mode, in displacing, with faults and without an output
    ∷ sheet (wiring 705 0 500 300) (32 ∷ 1056 ∷ 288 ∷ []) (line 1 1 0 0 0 0)
    ∷ sheet (wiring 449 0 500 300) (32 ∷ 1056 ∷ 34 ∷ 162 ∷ []) (line 2 1 3 0 1 16)
    ∷ sheet (wiring 705 0 500 300) (32 ∷ 1056 ∷ 32 ∷ 4128 ∷ 288 ∷ []) (line 2 1 2 2 2 32)
    ∷ sheet (wiring 707 0 500 300) (32 ∷ 1056 ∷ 368 ∷ []) (line 2 0 2 0 2 16419)
    ∷ sheet (wiring 641 0 500 300) (32 ∷ 1056 ∷ 16 ∷ 272 ∷ []) (line 2 2 2 0 0 36)
    -- SMA raises in local mode too, and anew an output of its direction; a held output that is raised again has pulse sum 0
    ∷ sheet (wiring 4289 0 500 300) (18 ∷ 19 ∷ []) (command ≔ 1 ∷ output ≔ 2 ∷ [])
    ∷ sheet (wiring 4289 0 500 300) (16 ∷ 272 ∷ 16 ∷ 17 ∷ []) (command ≔ 1 ∷ end ≔ 2 ∷ output ≔ 2 ∷ pulse ≔ 0 ∷ [])
    ∷ from (record (lent 0 0 1 9 0) { settings = wiring 129 0 500 300 }) (4128 ∷ []) (output ≔ 1 ∷ pulse ≔ 0 ∷ [])
    ∷ []

-- Rule 2.6, and what no motor that started fresh comes to
unfoldable pub lent_sheets : List Sheet
lent_sheets =
    -- idle sums stay, of no command, no output and a held output, until a step sets them; past W and U they end nothing
    from (lent 0 7 0 9 0) (32 ∷ []) (sum ≔ 7 ∷ pulse ≔ 9 ∷ [])
    ∷ from (record (lent 0 0 1 9 0) { settings = wiring 129 0 500 300 }) (32 ∷ []) (output ≔ 1 ∷ pulse ≔ 9 ∷ [])
    ∷ from (record (lent 0 0 1 9 0) { settings = wiring 193 0 500 0 }) (32 ∷ []) (output ≔ 1 ∷ pulse ≔ 9 ∷ [])
    ∷ from (lent 0 7 0 9 0) (4128 ∷ []) (command ≔ 7 ∷ sum ≔ 0 ∷ output ≔ 1 ∷ pulse ≔ 0 ∷ [])
    ∷ from (lent 0 600 0 400 0) (32 ∷ []) (end ≔ 0 ∷ sum ≔ 600 ∷ pulse ≔ 400 ∷ flags ≔ 0 ∷ [])
    -- a command that raises nothing leaves an idle pulse sum, and its own output as it is; the opposite one drops, held too
    ∷ from (lent 0 7 0 9 0) (38 ∷ []) (command ≔ 5 ∷ sum ≔ 0 ∷ output ≔ 0 ∷ pulse ≔ 9 ∷ [])
    ∷ from (lent 0 0 1 100 0) (38 ∷ []) (command ≔ 5 ∷ output ≔ 1 ∷ pulse ≔ 200 ∷ [])
    ∷ from (record (lent 0 0 2 9 0) { settings = wiring 129 0 500 300 }) (38 ∷ []) (command ≔ 5 ∷ output ≔ 0 ∷ pulse ≔ 0 ∷ [])
    -- rule 3.4: a command that ends overdue drops a pulse of its own direction, one that is confirmed a pulse of either
    ∷ from (lent 7 400 2 0 0) (32 ∷ []) (end ≔ 3 ∷ sum ≔ 0 ∷ output ≔ 2 ∷ pulse ≔ 100 ∷ [])
    ∷ from (lent 6 400 1 0 0) (48 ∷ []) (end ≔ 3 ∷ output ≔ 1 ∷ pulse ≔ 100 ∷ [])
    ∷ from (lent 6 400 2 0 0) (48 ∷ []) (end ≔ 3 ∷ output ≔ 0 ∷ pulse ≔ 0 ∷ [])
    ∷ from (lent 7 0 2 0 0) (16 ∷ []) (end ≔ 1 ∷ output ≔ 0 ∷ pulse ≔ 0 ∷ [])
    ∷ from (lent 6 0 1 0 0) (32 ∷ []) (end ≔ 1 ∷ output ≔ 0 ∷ [])
    -- rule 3.5: flag 14 lent without flag 1 goes with a sure reading, with both open, with a command under way and in local mode
    ∷ from (flagged 0 16384) (32 ∷ []) (flags ≔ 0 ∷ [])
    ∷ from (flagged 0 16384) (0 ∷ []) (flags ≔ 2 ∷ [])
    ∷ from (flagged 7 16384) (48 ∷ []) (flags ≔ 0 ∷ [])
    ∷ from (flagged 0 16384) (50 ∷ []) (flags ≔ 0 ∷ [])
    -- all flags lent: with both closed all but flag 0 stay, with Reset flags 1 and 14
    ∷ from (flagged 0 32767) (48 ∷ []) (flags ≔ 32766 ∷ [])
    ∷ from (flagged 0 32767) (65584 ∷ []) (flags ≔ 16386 ∷ [])
    -- rule 3.9: of all flags an on command clears 5 and 6, an off command 4 (and rule 3.5 clears 0, 1 and 14)
    ∷ from (flagged 0 32767) (4128 ∷ []) (command ≔ 7 ∷ flags ≔ 16284 ∷ [])
    ∷ from (flagged 7 32767) (8224 ∷ []) (command ≔ 6 ∷ flags ≔ 16364 ∷ [])
    ∷ from (flagged 7 32767) (33 ∷ []) (command ≔ 1 ∷ flags ≔ 16364 ∷ [])
    -- rule 3.7: KO off acknowledges flags 5 and 6 and leaves 4, KO on the other way round
    ∷ from (record (flagged 0 32767) { settings = wiring 32961 0 500 300 }) (8224 ∷ []) (flags ≔ 16284 ∷ [])
    ∷ from (record (flagged 0 32767) { settings = wiring 193 1 500 300 }) (4128 ∷ []) (flags ≔ 16364 ∷ [])
    ∷ from (record (flagged 0 32767) { settings = wiring 32961 1 500 300 }) (12320 ∷ []) (command ≔ 0 ∷ flags ≔ 16268 ∷ [])
    -- rule 3.1: the end of another scan goes
    ∷ from (record (fresh wired) { status = record fresh_status { end = 3 } }) (32 ∷ []) (end ≔ 0 ∷ [])
    -- rule 3.2: the last sure position is pretended, and not the position before
    ∷ from (record (fresh (wiring 193 4 500 300)) { status = record fresh_status { sure = 1; position = 2 } }) (48 ∷ [])
    (position ≔ 1 ∷ sure ≔ 1 ∷ [])
    -- rule 3.1: Reset leaves a command under way, the sums and the output
    ∷ from (lent 7 50 1 50 32767) (65568 ∷ []) (command ≔ 7 ∷ sum ≔ 150 ∷ output ≔ 1 ∷ pulse ≔ 150 ∷ flags ≔ 0 ∷ [])
    ∷ []

unfoldable pub own_sheets : List Sheet
own_sheets =
    start_sheets
    ++ reset_sheets
    ++ switch_sheets
    ++ sum_sheets
    ++ end_sheets
    ++ fault_sheets
    ++ mode_sheets
    ++ acknowledging_sheets
    ++ choice_sheets
    ++ issue_sheets
    ++ lent_sheets
