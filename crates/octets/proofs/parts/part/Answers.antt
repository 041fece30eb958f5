use Rattle.octets.proofs.SplitLaws.{between_cut}
use Rattle.octets.proofs.parts.part.Goals as goal

pub returns : goal.returns
returns c =
    let a = c.args in
    between_cut a.from a.to _ _ a.s.now c.min-end.ensures c.min.ensures
