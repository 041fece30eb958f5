use Rattle.std.proofs.Common.{drop}
use Rattle.report.proofs.PutLaws.{Completes}
use Rattle.report.proofs.page.Page.text.Given as goal

abbrev pub invariant-loop-b : goal.invariant-loop-b
invariant-loop-b l = Completes l.initial.self l.text l.self (drop l.b-index l.text)
