use Rattle.std.proofs.Common.{ℕ, ◌≡◌, length, get_or, set, refl, sym, ◌∙◌, arith}
use Rattle.rules.specs.Record.{with_status}
use Rattle.rules.specs.Steps.{step}
use Rattle.std.proofs.lemmas.Bool.{false≢true}
use Rattle.rules.specs.declared.Motor.{Motor}
use Rattle.totals.specs.declared.Totals.{Totals}
use Rattle.rules.specs.Refusals.{most_motors, one_refusal}
use Rattle.sheet.proofs.RequestLaws.{taken}
use Rattle.table.proofs.Rows.{blank}
use Rattle.totals.specs.Running.{no_totals, scan_totals}
use Rattle.interpreter.proofs.LineLaws.{closer, onward, inside, same_size}
use Rattle.interpreter.proofs.ScanLaws.{ready_if, no_scan}
use Rattle.course.proofs.Runs.{nothing_yet, no_room, none_here}
use Rattle.print.proofs.AdvanceLaws.{run_inputs}
use Rattle.print.proofs.ScanLaws.{set_rested, set_rested_totals, rested_totals_kept, set_scanned, set_scanned_totals, scanning_none, scanning_more, turn_due, line_scanned}
use Rattle.print.proofs.Sitting.scan_lines.Goals as goal
use Rattle.print.proofs.Sitting.scan_lines.Goals.{then-is_resting, then-eq, else-eq, else-is_resting, else-loop-inputs-test, then-loop-inputs-test+in_default}

pub loop-inputs-init : goal.loop-inputs-init
loop-inputs-init c =
    let bench = c.args.self.now.bench in
    let is : length bench.motors ≡ 32 = omega arith in
    let js : length bench.words ≡ 32 = omega arith in
    record { motors = is; totals = omega arith; words = js; ready = ready_if bench is js c.requires; run = nothing_yet; within = λ l. l }

pub loop-i-init : goal.loop-i-init
loop-i-init c = scanning_none

pub loop-i-preserved : goal.loop-i-preserved
unfolding with_status most_motors
loop-i-preserved c =
    let l = c.loop-inputs.invariant in
    let e = c.loop-i in
    let run = c.take in
    let f = c.in-Some.ensures.found in
    let period : ℕ = c.in-Some.period in
    let word : ℕ = get_or run.new.self.words e.i 0 in
    let m : Motor = get_or e.motors e.i blank in
    let t : Totals = get_or e.totals e.i no_totals in
    -- the motor whose turn it is, is accepted
    let ok : one_refusal m word period ≡ 0 =
    turn_due l.run run.new.self l.motors l.totals l.words l.ready run.ensures _ _ f.0 f.1 e.invariant blank (omega (arith, c.loop-i-test.true, c.held-held.ensures)) in
    -- the lists with it and its totals after its scan, at rest or not
    let motors_later : c.if-is_resting.motors ≡ set e.motors e.i (step m word period) =
    elim c.if-is_resting.branch [
      | then-is_resting w ↦ w.motors-is ∙ set_rested e.motors e.totals e.i m t word period ok c.read-r.ensures (sym c.is_resting.ensures ∙ w.if-is_resting.true) w.rest.ensures
      | else-is_resting w ↦ w.motors-is ∙ set_scanned e.motors e.totals e.i m t word period ok c.read-r.ensures (w.unwrap_or-stepped.ensures ∙ w.scan.ensures.motor)
    ] in
    let totals_later : c.if-is_resting.totals ≡ set e.totals e.i (scan_totals t m word period) =
    elim c.if-is_resting.branch [
      | then-is_resting w ↦
          w.totals-is ∙ elim w.if-eq.branch [
            | then-eq x ↦ x.totals-is ∙ set_rested_totals e.motors e.totals e.i m t word period ok c.read-r.ensures (sym c.is_resting.ensures ∙ w.if-is_resting.true) x.on_after.ensures
            | else-eq x ↦ x.totals-is ∙ rested_totals_kept e.motors e.totals e.i m t word period ok c.read-r.ensures (sym c.is_resting.ensures ∙ w.if-is_resting.true) no_totals (λ q. false≢true (rw q at x.if-eq.ensures)) refl
          ]
      | else-is_resting w ↦ w.totals-is ∙ set_scanned_totals e.motors e.totals e.i m t word period ok c.read-r.ensures (w.unwrap_or-stepped.ensures ∙ w.scan.ensures.motor) w.after.ensures
    ] in
    scanning_more e.invariant blank no_totals (omega (arith, c.loop-i-test.true, c.held-held.ensures, l.motors)) (omega (arith, c.loop-i-test.true, c.held-held.ensures, l.totals))
    (omega (arith, c.loop-i-test.true, c.held-held.ensures, l.words, same_size run.ensures.lines)) motors_later totals_later (rw c.row.ensures at c.row-in-loop-i.ensures)

pub loop-inputs-smaller : goal.loop-inputs-smaller
loop-inputs-smaller c = closer _ _ _ _ _ (onward c.take.ensures.lines) c.in-Some.ensures.found.0

pub loop-inputs-preserved : goal.loop-inputs-preserved
loop-inputs-preserved c =
    let l = c.loop-inputs.invariant in
    let f = c.in-Some.ensures.found in
    let all : c.loop-i.i ≡ c.held-held.result = omega arith in
    let s =
    line_scanned l.run c.take.new.self l.motors l.totals l.words l.ready c.take.ensures _ _ f.0 f.1
    (all ∙ c.held-held.ensures) (rw c.next_number-scans.ensures at c.loop-i.invariant) (omega (arith, c.loop-inputs-test.true)) in
    rw (c.next_number.ensures, c.next_number-scans.ensures) (record { motors = s.0; totals = s.1; words = s.2; ready = s.3; run = s.4; within = λ l. (taken _ _ _ _ f.0).within })

pub returns : goal.returns
returns c =
    let l = c.loop-inputs.invariant in
    elim c.loop-inputs-test.branch [
      | else-loop-inputs-test w ↦ rw w.inputs-is (no_room l.run l.within (omega (arith, w.loop-inputs-test.false)))
      | then-loop-inputs-test+in_default w ↦ rw w.inputs-is
          (none_here (run_inputs l.run w.take.new.self l.motors w.take.ensures) (λ m. inside w.take.ensures.lines (l.within m)) (no_scan _ _ w.in_default.ensures.missed _))
    ]
