use Rattle.std.proofs.Common.{drop}
use Rattle.report.specs.Print.{after_commas}
use Rattle.report.proofs.PutLaws.{Completes}
use Rattle.report.proofs.page.Page.line.Given as goal

abbrev pub invariant-loop-n : goal.invariant-loop-n
invariant-loop-n l = Completes l.initial.self (after_commas l.numbers) l.self (after_commas (drop l.n-index l.numbers))
