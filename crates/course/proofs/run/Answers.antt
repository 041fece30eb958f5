use Rattle.input.proofs.Front.{written_known}
use Rattle.course.proofs.run.Goals as goal

pub returns : goal.returns
returns g c =
    let w = g.C.Course.walk in
    written_known w.text w.refused g.met.C.Course.laws.long c.print.result (g.R.Read.remaining c.args.from) _ _ _ _ c.deref.ensures.value c.print.ensures c.in_ok-file.ensures
