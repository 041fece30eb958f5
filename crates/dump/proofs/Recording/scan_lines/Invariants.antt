use Rattle.std.proofs.Common.{◌≡◌, ◌≤◌, ◌-◌, length}
use Rattle.interpreter.specs.State.{held_of}
use Rattle.interpreter.specs.Lines.{ReadyBench}
use Rattle.course.specs.Walk.{Run}
use Rattle.dump.specs.Advance.{dump_walk}
use Rattle.dump.proofs.AdvanceLaws.{after_inputs}
use Rattle.dump.proofs.Recording.scan_lines.Given as goal

abbrev pub invariant-loop-inputs : goal.invariant-loop-inputs
invariant-loop-inputs l =
    let s = after_inputs l.self l.inputs in
    record {
      motors : length s.bench.motors ≡ 32;
      words : length s.bench.words ≡ 32;
      held : l.held ≡ held_of s.bench;
      ready : ReadyBench s.bench;
      run : Run dump_walk l.file l.initial.self l.initial.page s l.page;
      within : l.initial.self.at ≤ length l.file → s.at ≤ length l.file;
    }

abbrev pub decreases-loop-inputs : goal.decreases-loop-inputs
decreases-loop-inputs l = length l.file - l.inputs.at
