use Rattle.std.proofs.Common.{◌∙◌, arith}
use Rattle.sheet.proofs.RequestLaws.{taken}
use Rattle.interpreter.proofs.LineLaws.{closer, same_size, onward, inside}
use Rattle.interpreter.proofs.ScanLaws.{ready_if, no_scan}
use Rattle.report.specs.Puts.{Puts}
use Rattle.report.proofs.PutLaws.{puts_none}
use Rattle.course.proofs.Runs.{nothing_yet, run_and_line, no_room, none_here}
use Rattle.dump.specs.Advance.{moment_of, first_text}
use Rattle.dump.proofs.SignalLaws.{first_none_ran, first_some_ran}
use Rattle.dump.proofs.AdvanceLaws.{and_inputs, inputs_ready, after_inputs, in_use_due, in_use_scanned, in_use_put, scanned_length, scanned_ready, one_scan}
use Rattle.dump.proofs.Recording.scan_lines.Goals as goal
use Rattle.dump.proofs.Recording.scan_lines.Goals.{else-loop-inputs-test, then-loop-inputs-test+in_default, then-is_first, else-is_first}

pub loop-inputs-init : goal.loop-inputs-init
loop-inputs-init c =
    let b = c.args.self.now.bench in
    let in_use = c.in_use-held.ensures in
    record {
      motors = in_use.motors;
      words = in_use.words;
      held = in_use.held;
      ready = ready_if b in_use.motors in_use.words c.requires;
      run = nothing_yet;
      within = λ l. l;
    }

pub scan_all-requires : goal.scan_all-requires
scan_all-requires c =
    let l = c.loop-inputs.invariant in
    let i = c.take in
    in_use_due (after_inputs c.loop-inputs.self i.new.self).bench l.motors (same_size i.ensures.lines ∙ l.words) (inputs_ready (after_inputs c.loop-inputs.self c.loop-inputs.inputs) l.ready i.ensures) c.in-Some.period c.in-Some.ensures.found.1 l.held

pub loop-inputs-smaller : goal.loop-inputs-smaller
loop-inputs-smaller c = closer _ _ _ _ _ (onward c.take.ensures.lines) c.in-Some.ensures.found.0

pub loop-inputs-preserved : goal.loop-inputs-preserved
loop-inputs-preserved c =
    let l = c.loop-inputs.invariant in
    let i = c.take in
    let period = c.in-Some.period in
    let found = c.in-Some.ensures.found in
    let s = after_inputs c.loop-inputs.self i.new.self in
    let ks = same_size i.ensures.lines ∙ l.words in
    let e = in_use_scanned s.bench period l.held c.scan_all.ensures.scanned in
    let ready = inputs_ready (after_inputs c.loop-inputs.self c.loop-inputs.inputs) l.ready i.ensures in
    let first : Puts c.loop-inputs.page (first_text s.bench.scans (moment_of s).motors) c.if-is_first.page =
    elim c.if-is_first.branch [
      | then-is_first w ↦ rw (w.page-is, first_none_ran _ (moment_of s).motors w.if-is_first.true) w.put_opening.ensures.put
      | else-is_first w ↦ rw (w.page-is, first_some_ran _ (moment_of s).motors w.if-is_first.false) puts_none
    ] in
    let put = in_use_put s.bench l.motors period l.held c.scan_all.ensures.scanned first c.plus-time.ensures c.scan_all.ensures.put in
    rw (c.next_number-self.ensures, c.plus-time.ensures) (record {
      motors = scanned_length s l.motors period e;
      words = ks;
      held = l.held;
      ready = scanned_ready s l.motors period e ks c.in-Some.next ready found.1;
      run = run_and_line (and_inputs l.run i.new.self l.motors i.ensures) (omega (arith, c.loop-inputs-test.true, c.room.ensures)) (one_scan s l.motors period e ks c.in-Some.next ready found.1 found.0 put);
      within = λ m. (taken _ _ _ _ found.0).within;
    })

pub returns : goal.returns
returns c =
    let l = c.loop-inputs.invariant in
    elim c.loop-inputs-test.branch [
      | else-loop-inputs-test w ↦ rw w.inputs-is (no_room l.run l.within (omega (arith, w.loop-inputs-test.false, c.room.ensures)))
      | then-loop-inputs-test+in_default w ↦ rw w.inputs-is
          (none_here (and_inputs l.run w.take.new.self l.motors w.take.ensures) (λ m. inside w.take.ensures.lines (l.within m)) (no_scan _ _ w.in_default.ensures.missed _))
    ]
