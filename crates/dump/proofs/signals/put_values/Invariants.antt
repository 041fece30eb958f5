use Rattle.std.proofs.Common.{◌*◌, take, drop}
use Rattle.vcd.specs.Text.{values_from}
use Rattle.dump.specs.Dump.{signals_of}
use Rattle.report.proofs.PutLaws.{Completes}
use Rattle.dump.proofs.signals.put_values.Given as goal

abbrev pub invariant-loop-i : goal.invariant-loop-i
invariant-loop-i l =
    Completes l.initial.page (values_from 0 (signals_of (take l.fn.bench.count l.fn.bench.motors))) l.page (values_from (2 * l.i) (signals_of (drop l.i l.m-items)))
