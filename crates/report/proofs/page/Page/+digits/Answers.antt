use Rattle.std.proofs.Common.{arith}
use Rattle.report.proofs.PageLaws.{number_less, number_then}
use Rattle.report.proofs.page.Page.+digits.Goals as goal

pub returns-then-n-lt10 : goal.returns-then-n-lt10
returns-then-n-lt10 t c = number_less _ (omega arith) c.byte.ensures

pub returns : goal.returns
returns t c = number_then _ (omega arith) (omega arith) c.digits.ensures c.byte-2.ensures
