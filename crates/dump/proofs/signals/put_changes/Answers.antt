use Rattle.std.proofs.Common.{◌*◌, sym}
use Rattle.report.proofs.PutLaws.{puts_none, puts_then}
use Rattle.dump.specs.Dump.{motor_signals}
use Rattle.vcd.proofs.TextLaws.{changes_same}
use Rattle.dump.proofs.SignalLaws.{both_changes, timed_by_none, timed_by_more, due_after_none, due_after_more}
use Rattle.dump.proofs.signals.put_changes.Goals as goal

pub returns-then-before-after-clause-put : goal.returns-then-before-after-clause-put
returns-then-before-after-clause-put c =
    rw (c.if-before-after.true, changes_same (2 * c.args.i) (motor_signals c.args.after), timed_by_none c.args.due) puts_none

pub returns-then-before-after-clause-due : goal.returns-then-before-after-clause-due
returns-then-before-after-clause-due c =
    rw (c.if-before-after.true, changes_same (2 * c.args.i) (motor_signals c.args.after)) (sym (due_after_none c.args.due))

pub returns-clause-put : goal.returns-clause-put
returns-clause-put c =
    let on = c.put_change-due.ensures in
    rw (both_changes c.args.i c.args.before c.args.after c.code.ensures c.code-2.ensures, timed_by_more c.args.due _ _) (puts_then on.put (rw on.due at c.put_change.ensures.put))

pub returns-clause-due : goal.returns-clause-due
returns-clause-due c =
    let on = c.put_change-due.ensures in
    rw (both_changes c.args.i c.args.before c.args.after c.code.ensures c.code-2.ensures, due_after_more c.args.due _ _) (rw on.due at c.put_change.ensures.due)
