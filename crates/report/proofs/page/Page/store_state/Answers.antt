use Rattle.std.proofs.Common.{arith}
use Rattle.report.specs.Print.{after_comma}
use Rattle.report.proofs.PutLaws.{puts_then}
use Rattle.report.proofs.PageLaws.{number_less}
use Rattle.report.proofs.page.Page.store_state.Goals as goal

pub returns-clause-puts : goal.returns-clause-puts
unfolding after_comma
returns-clause-puts c = puts_then c.store.ensures.puts (number_less _ (omega arith) c.store_digit.ensures.puts)
