use Rattle.std.proofs.Common.{refl, rules, tests}
use Rattle.std.proofs.lemmas.Iterator.{YieldsList-from_range}
use Rattle.std.proofs.lemmas.Iterator.Search.{any_from_yields_List}
use Rattle.rules.specs.Record.{commands, command_risen}
use Rattle.status.proofs.mode.is_any_risen.Goals as goal

pub returns : goal.returns
unfolding commands
returns c = any_from_yields_List (command_risen c.args.v c.args.word) _ _ _ c.any.ensures.ran (YieldsList-from_range 1 8 7 refl refl) (λ x b q k. search (rules, tests))
