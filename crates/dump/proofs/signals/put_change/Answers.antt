use Rattle.std.proofs.Common.{◌∷◌, []}
use Rattle.report.proofs.PutLaws.{puts_then}
use Rattle.dump.specs.Signals.{timed_by}
use Rattle.vcd.proofs.TextLaws.{changed_line, line_timed}
use Rattle.dump.proofs.signals.put_change.Goals as goal
use Rattle.dump.proofs.signals.put_change.Goals.{in-Some, in_default}

pub returns-clause-put : goal.returns-clause-put
unfolding timed_by
returns-clause-put c =
    let line = changed_line (c.args.code ∷ []) c.args.before c.args.after c.if-before-after.false in
    elim c.match-due.branch [
      | in-Some w ↦ rw (line, w.in-Some.is, line_timed w.in-Some.time (c.args.code ∷ []) c.args.after) (puts_then w.put_time.ensures (rw w.page-is at c.put_value.ensures))
      | in_default w ↦ rw (line, w.in_default.is) (rw w.page-is at c.put_value.ensures)
    ]
