-- The dump of sheets/first.txt, and dumps of files with no motor, no scan or a refusal, by computing. Assumes nothing.
use Prim.Native.Nat.{ℕ}
use mathlib.Core.Path.{◌≡◌, refl}
use mathlib.Core.List.{List, [], ◌∷◌, ◌++◌}
use Rattle.rules.specs.Opened.{opened as rules-opened}
use Rattle.sheet.specs.Opened.{opened as sheet-opened}
use Rattle.sheet.proofs.Vectors.{first_file}
use Rattle.totals.specs.Opened.{opened as totals-opened}
use Rattle.report.specs.Opened.{opened as report-opened}
use Rattle.interpreter.specs.Opened.{opened as interpreter-opened}
use Rattle.vcd.specs.Opened.{opened as vcd-opened}
use Rattle.dump.specs.Dump.{dump_of}
use Rattle.dump.specs.Opened.{opened}

-- header and #0 of no motor and of one
no_motor : List ℕ
no_motor =
    36 ∷ 116 ∷ 105 ∷ 109 ∷ 101 ∷ 115 ∷ 99 ∷ 97 ∷ 108 ∷ 101 ∷ 32 ∷ 49 ∷ 32 ∷ 109 ∷ 115 ∷ 32 ∷ 36 ∷ 101 ∷ 110 ∷ 100 ∷ 10 ∷
    36 ∷ 115 ∷ 99 ∷ 111 ∷ 112 ∷ 101 ∷ 32 ∷ 109 ∷ 111 ∷ 100 ∷ 117 ∷ 108 ∷ 101 ∷ 32 ∷ 98 ∷ 101 ∷ 110 ∷ 99 ∷ 104 ∷ 32 ∷ 36 ∷ 101 ∷ 110 ∷ 100 ∷ 10 ∷
    36 ∷ 117 ∷ 112 ∷ 115 ∷ 99 ∷ 111 ∷ 112 ∷ 101 ∷ 32 ∷ 36 ∷ 101 ∷ 110 ∷ 100 ∷ 10 ∷
    36 ∷ 101 ∷ 110 ∷ 100 ∷ 100 ∷ 101 ∷ 102 ∷ 105 ∷ 110 ∷ 105 ∷ 116 ∷ 105 ∷ 111 ∷ 110 ∷ 115 ∷ 32 ∷ 36 ∷ 101 ∷ 110 ∷ 100 ∷ 10 ∷
    35 ∷ 48 ∷ 10 ∷
    []

pub one_motor : List ℕ
one_motor =
    36 ∷ 116 ∷ 105 ∷ 109 ∷ 101 ∷ 115 ∷ 99 ∷ 97 ∷ 108 ∷ 101 ∷ 32 ∷ 49 ∷ 32 ∷ 109 ∷ 115 ∷ 32 ∷ 36 ∷ 101 ∷ 110 ∷ 100 ∷ 10 ∷
    36 ∷ 115 ∷ 99 ∷ 111 ∷ 112 ∷ 101 ∷ 32 ∷ 109 ∷ 111 ∷ 100 ∷ 117 ∷ 108 ∷ 101 ∷ 32 ∷ 98 ∷ 101 ∷ 110 ∷ 99 ∷ 104 ∷ 32 ∷ 36 ∷ 101 ∷ 110 ∷ 100 ∷ 10 ∷
    36 ∷ 118 ∷ 97 ∷ 114 ∷ 32 ∷ 119 ∷ 105 ∷ 114 ∷ 101 ∷ 32 ∷ 49 ∷ 32 ∷ 33 ∷ 32 ∷ 109 ∷ 49 ∷ 111 ∷ 110 ∷ 32 ∷ 36 ∷ 101 ∷ 110 ∷ 100 ∷ 10 ∷
    36 ∷ 118 ∷ 97 ∷ 114 ∷ 32 ∷ 119 ∷ 105 ∷ 114 ∷ 101 ∷ 32 ∷ 49 ∷ 32 ∷ 34 ∷ 32 ∷ 109 ∷ 49 ∷ 111 ∷ 102 ∷ 102 ∷ 32 ∷ 36 ∷ 101 ∷ 110 ∷ 100 ∷ 10 ∷
    36 ∷ 117 ∷ 112 ∷ 115 ∷ 99 ∷ 111 ∷ 112 ∷ 101 ∷ 32 ∷ 36 ∷ 101 ∷ 110 ∷ 100 ∷ 10 ∷
    36 ∷ 101 ∷ 110 ∷ 100 ∷ 100 ∷ 101 ∷ 102 ∷ 105 ∷ 110 ∷ 105 ∷ 116 ∷ 105 ∷ 111 ∷ 110 ∷ 115 ∷ 32 ∷ 36 ∷ 101 ∷ 110 ∷ 100 ∷ 10 ∷
    35 ∷ 48 ∷ 10 ∷
    48 ∷ 33 ∷ 10 ∷
    48 ∷ 34 ∷ 10 ∷
    []

-- #200, 1!, #300, 0!
pub later : List ℕ
later =
    35 ∷ 50 ∷ 48 ∷ 48 ∷ 10 ∷
    49 ∷ 33 ∷ 10 ∷
    35 ∷ 51 ∷ 48 ∷ 48 ∷ 10 ∷
    48 ∷ 33 ∷ 10 ∷
    []

pub first_dump : dump_of first_file ≡ one_motor ++ later
unfolding opened interpreter-opened rules-opened totals-opened sheet-opened report-opened vcd-opened first_file one_motor later
first_dump = refl

-- an empty file
empty : dump_of ([]) ≡ no_motor
unfolding opened interpreter-opened rules-opened totals-opened sheet-opened report-opened vcd-opened no_motor
empty = refl

-- a scan of no motor: S,100
without_motors : dump_of (83 ∷ 44 ∷ 49 ∷ 48 ∷ 48 ∷ 10 ∷ []) ≡ no_motor
unfolding opened interpreter-opened rules-opened totals-opened sheet-opened report-opened vcd-opened no_motor
without_motors = refl

-- M,1,193,0,500,300 alone
without_scans : dump_of (77 ∷ 44 ∷ 49 ∷ 44 ∷ 49 ∷ 57 ∷ 51 ∷ 44 ∷ 48 ∷ 44 ∷ 53 ∷ 48 ∷ 48 ∷ 44 ∷ 51 ∷ 48 ∷ 48 ∷ 10 ∷ []) ≡ one_motor
unfolding opened interpreter-opened rules-opened totals-opened sheet-opened report-opened vcd-opened one_motor
without_scans = refl

-- S,0
first_line_refused : dump_of (83 ∷ 44 ∷ 48 ∷ 10 ∷ []) ≡ no_motor
unfolding opened interpreter-opened rules-opened totals-opened sheet-opened report-opened vcd-opened no_motor
first_line_refused = refl

-- M,1,193,0,500,300, S,0, S,100: the refused scan ends the dump
first_scan_refused : dump_of (77 ∷ 44 ∷ 49 ∷ 44 ∷ 49 ∷ 57 ∷ 51 ∷ 44 ∷ 48 ∷ 44 ∷ 53 ∷ 48 ∷ 48 ∷ 44 ∷ 51 ∷ 48 ∷ 48 ∷ 10 ∷ 83 ∷ 44 ∷ 48 ∷ 10 ∷ 83 ∷ 44 ∷ 49 ∷ 48 ∷ 48 ∷ 10 ∷ []) ≡ one_motor
unfolding opened interpreter-opened rules-opened totals-opened sheet-opened report-opened vcd-opened one_motor
first_scan_refused = refl

-- M,1,193,0,500,300, M,3,193,0,500,300, S,100
second_motor_refused : dump_of (77 ∷ 44 ∷ 49 ∷ 44 ∷ 49 ∷ 57 ∷ 51 ∷ 44 ∷ 48 ∷ 44 ∷ 53 ∷ 48 ∷ 48 ∷ 44 ∷ 51 ∷ 48 ∷ 48 ∷ 10 ∷ 77 ∷ 44 ∷ 51 ∷ 44 ∷ 49 ∷ 57 ∷ 51 ∷ 44 ∷ 48 ∷ 44 ∷ 53 ∷ 48 ∷ 48 ∷ 44 ∷ 51 ∷ 48 ∷ 48 ∷ 10 ∷ 83 ∷ 44 ∷ 49 ∷ 48 ∷ 48 ∷ 10 ∷ []) ≡ one_motor
unfolding opened interpreter-opened rules-opened totals-opened sheet-opened report-opened vcd-opened one_motor
second_motor_refused = refl

-- that file with I,2,0, S,100 after it: nothing more
refused_after_a_change : dump_of (first_file ++ (73 ∷ 44 ∷ 50 ∷ 44 ∷ 48 ∷ 10 ∷ 83 ∷ 44 ∷ 49 ∷ 48 ∷ 48 ∷ 10 ∷ [])) ≡ one_motor ++ later
unfolding opened interpreter-opened rules-opened totals-opened sheet-opened report-opened vcd-opened first_file one_motor later
refused_after_a_change = refl

-- its last line without LF is refused
without_the_last_lf : dump_of (first_file ++ (83 ∷ 44 ∷ 49 ∷ 48 ∷ 48 ∷ [])) ≡ one_motor ++ later
unfolding opened interpreter-opened rules-opened totals-opened sheet-opened report-opened vcd-opened first_file one_motor later
without_the_last_lf = refl

-- M,1,193,0,500,300, I,1,4128, S,100: #0 has the outputs before the scan
changed_in_the_first_scan : dump_of (77 ∷ 44 ∷ 49 ∷ 44 ∷ 49 ∷ 57 ∷ 51 ∷ 44 ∷ 48 ∷ 44 ∷ 53 ∷ 48 ∷ 48 ∷ 44 ∷ 51 ∷ 48 ∷ 48 ∷ 10 ∷ 73 ∷ 44 ∷ 49 ∷ 44 ∷ 52 ∷ 49 ∷ 50 ∷ 56 ∷ 10 ∷ 83 ∷ 44 ∷ 49 ∷ 48 ∷ 48 ∷ 10 ∷ []) ≡ one_motor ++ (35 ∷ 49 ∷ 48 ∷ 48 ∷ 10 ∷ 49 ∷ 33 ∷ 10 ∷ [])
unfolding opened interpreter-opened rules-opened totals-opened sheet-opened report-opened vcd-opened one_motor
changed_in_the_first_scan = refl
