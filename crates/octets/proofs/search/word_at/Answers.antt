use Rattle.octets.proofs.WordLaws.{word_is}
use Rattle.octets.proofs.search.word_at.Goals as goal

pub returns : goal.returns
returns c =
    let eight = rw c.unwrap.ensures at c.first_chunk.ensures.cases in
    word_is c.args.s.now c.args.i _ _ c.requires (λ k. (c.type_inv.s k).fits) eight.same c.from_le_bytes.ensures
