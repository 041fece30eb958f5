use Rattle.std.proofs.Common.{arith}
use Rattle.dump.proofs.ScanLaws.{none_scanned, among, word_there, turn_due, one_scanned, all_scanned}
use Rattle.dump.proofs.scans.scan_all.Goals as goal

pub loop-i-init : goal.loop-i-init
loop-i-init c = none_scanned

pub bounds-words-i : goal.bounds-words-i
bounds-words-i c = word_there c.requires c.loop-i.invariant c.loop-i-test.true

pub step-requires : goal.step-requires
step-requires c = turn_due c.requires c.loop-i.invariant c.loop-i-test.true _

pub put_changes-due-requires : goal.put_changes-due-requires
put_changes-due-requires c = among c.requires c.loop-i.invariant c.loop-i-test.true

pub loop-i-preserved : goal.loop-i-preserved
loop-i-preserved c =
    one_scanned c.requires c.loop-i.invariant c.loop-i-test.true _ c.step.ensures c.put_changes-due.ensures.put c.put_changes-due.ensures.due

pub returns-clause-scanned : goal.returns-clause-scanned
returns-clause-scanned c = all_scanned c.requires c.loop-i.invariant (omega (arith, c.loop-i-test.false))

pub returns-clause-put : goal.returns-clause-put
returns-clause-put c = c.loop-i.invariant.put
