use Rattle.std.proofs.Common.{rules}
use Rattle.totals.proofs.Theorem.{claimed}
use Rattle.totals.proofs.none.Goals as goal

pub returns : goal.returns
returns c = (search rules, claimed)
