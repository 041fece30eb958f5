use Rattle.std.proofs.Common.{◌+◌, ◌-◌, ◌*◌, length, take}
use Rattle.vcd.specs.Text.{wires_from}
use Rattle.report.proofs.PutLaws.{Completes}
use Rattle.dump.proofs.signals.put_wires.Given as goal

abbrev pub invariant-loop-i : goal.invariant-loop-i
invariant-loop-i l =
    let held = length (take l.fn.bench.count l.fn.bench.motors) in
    Completes l.initial.page (wires_from 0 1 held) l.page (wires_from (2 * l.i) (l.i + 1) (held - l.i))
