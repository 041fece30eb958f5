use Rattle.dump.proofs.ScanLaws.{Scanned}
use Rattle.dump.proofs.scans.scan_all.Given as goal

abbrev pub invariant-loop-i : goal.invariant-loop-i
invariant-loop-i l = Scanned l.initial.motors l.words l.period l.time l.initial.page l.i l.motors l.due l.page
