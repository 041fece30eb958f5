use lib.Bits.{bit_and}
use Rattle.status.proofs.Modes.{Counted, counted}
use Rattle.status.proofs.mode.asked_mode.Goals as goal

pub overflow_sub-result : goal.overflow_sub-result
overflow_sub-result c =
    let f : Counted c.args.v c.args.word (bit_and c.risen-r.result 3584) = rw c.risen-r.ensures (counted c.args.v c.args.word) in
    f.least

pub returns : goal.returns
returns c =
    let f : Counted c.args.v c.args.word (bit_and c.risen-r.result 3584) = rw c.risen-r.ensures (counted c.args.v c.args.word) in
    f.low
