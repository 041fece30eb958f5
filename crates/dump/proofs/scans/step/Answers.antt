use Rattle.std.proofs.Common.{◌∙◌}
use Rattle.refusals.proofs.Numbers.{is_ok-from_zero}
use Rattle.dump.proofs.scans.step.Goals as goal

pub unwrap-requires : goal.unwrap-requires
unwrap-requires c = is_ok-from_zero _ (c.scan.ensures.code ∙ c.requires)
