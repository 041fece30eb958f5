use Rattle.report.specs.Print.{line_of}
use Rattle.report.proofs.PutLaws.{puts_then}
use Rattle.report.proofs.PageLaws.{line_end}
use Rattle.report.proofs.page.Page.line.Goals as goal

pub returns : goal.returns
unfolding line_of
returns c = puts_then c.byte.ensures (line_end _ _ c.loop-n-test.false c.loop-n.invariant c.byte-2.ensures)
