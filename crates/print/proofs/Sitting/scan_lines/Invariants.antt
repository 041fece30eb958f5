use Rattle.std.proofs.Common.{ℕ, ◌-◌, ◌≤◌, ◌≡◌, List, length}
use Rattle.rules.specs.declared.Motor.{Motor}
use Rattle.totals.specs.declared.Totals.{Totals}
use Rattle.interpreter.specs.Lines.{ReadyBench}
use Rattle.interpreter.specs.declared.Bench.{Bench}
use Rattle.course.specs.Walk.{Run}
use Rattle.print.specs.Course.{print_walk}
use Rattle.print.proofs.AdvanceLaws.{sitting}
use Rattle.print.proofs.ScanLaws.{Scanning}
use Rattle.print.proofs.Sitting.scan_lines.Given as goal

-- a bench by its parts
abbrev pub bench_of : List Motor → List Totals → List ℕ → ℕ → ℕ → Bench
bench_of motors totals words count scans = record { motors = motors; totals = totals; words = words; count = count; scans = scans }

-- the lines taken so far, and what a scan of the bench needs
abbrev pub invariant-loop-inputs : goal.invariant-loop-inputs
invariant-loop-inputs l =
    let bench = bench_of l.motors l.totals l.inputs.words l.count l.scans in
    record {
      motors : length l.motors ≡ 32;
      totals : length l.totals ≡ 32;
      words : length l.inputs.words ≡ 32;
      ready : ReadyBench bench;
      run : Run print_walk l.file l.initial.self l.initial.page (sitting bench l.inputs.at l.inputs.line) l.page;
      within : l.initial.self.at ≤ length l.file → l.inputs.at ≤ length l.file;
    }

abbrev pub decreases-loop-inputs : goal.decreases-loop-inputs
decreases-loop-inputs l = length l.file - l.inputs.at

-- the motors scanned so far
abbrev pub invariant-loop-i : goal.invariant-loop-i
invariant-loop-i l = Scanning l.initial.motors l.initial.totals l.inputs.words l.period l.scans l.initial.page l.motors l.totals l.page l.i
