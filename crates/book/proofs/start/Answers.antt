use Rattle.book.proofs.Theorem.{claimed}
use Rattle.book.proofs.start.Goals as goal

pub returns : goal.returns
returns c = (c.fresh.ensures, claimed c.args.s)
