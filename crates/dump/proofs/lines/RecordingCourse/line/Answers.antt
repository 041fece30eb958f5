use Rattle.std.proofs.Common.{sym, ◌∙◌}
use Rattle.interpreter.proofs.ActLaws.{not_zero}
use Rattle.dump.proofs.AdvanceLaws.{at_end, goes_on, stops}
use Rattle.dump.proofs.lines.RecordingCourse.line.Goals as goal

pub returns-in-Ok : goal.returns-in-Ok
returns-in-Ok c here no_scan = goes_on c.act.new.self (sym c.next_request.ensures ∙ c.in-Some.is) no_scan (sym c.in-Ok.ensures.refusal) c.in-Ok.ensures.state

pub returns-in-Err : goal.returns-in-Err
returns-in-Err c here no_scan =
    let f = rw c.in-Err.ensures.unchanged at c.finish.ensures in
    stops f.put f.past f.short (sym c.next_request.ensures ∙ c.in-Some.is) (not_zero _ c.in-Err.ensures.refusal)

pub returns-in-None : goal.returns-in-None
returns-in-None c here no_scan =
    let f = c.finish-in-None.ensures in
    at_end f.put f.past f.short here (sym c.next_request.ensures ∙ c.in-None.is)
