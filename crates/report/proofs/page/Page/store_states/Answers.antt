use Rattle.report.specs.Store.{states_of}
use Rattle.report.proofs.PutLaws.{puts_then}
use Rattle.report.proofs.page.Page.store_states.Goals as goal

pub returns-clause-puts : goal.returns-clause-puts
unfolding states_of
returns-clause-puts c =
    puts_then c.store_state.ensures.puts (puts_then c.store_state-2.ensures.puts (puts_then c.store_state-3.ensures.puts
    (puts_then c.store_state-4.ensures.puts c.store_state-5.ensures.puts)))
