use Rattle.input.proofs.Front.{front_known}
use Rattle.input.proofs.read_front.Goals as goal

pub returns : goal.returns
returns g c =
    front_known g.R.Read.remaining c.take.result c.args.from _ _ c.take.ensures.limit c.take.ensures.inner c.in_ok-file.ensures.items c.in_ok-read_to_end.ensures.bytes
