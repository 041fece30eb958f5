use Rattle.std.proofs.Common.{◌≡◌, length, sym, ◌∙◌, arith}
use Rattle.print.proofs.AdvanceLaws.{at_end_lem, goes_on_quietly}
use Rattle.print.proofs.lines.SittingCourse.line.Goals as goal

pub returns-in-Ok : goal.returns-in-Ok
returns-in-Ok c here no_scan =
    rw c.next_number-self.ensures
    (goes_on_quietly (sym c.next_request.ensures ∙ c.in-Some.is) no_scan c.act.new.self c.in-Ok.ensures.state (sym c.in-Ok.ensures.refusal))

pub returns-in_default : goal.returns-in_default
returns-in_default c here no_scan =
    let is : length c.args.self.now.bench.motors ≡ 32 = omega arith in
    at_end_lem here (sym c.next_request.ensures ∙ c.in_default.is) is c.put_end.ensures
