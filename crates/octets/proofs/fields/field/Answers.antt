use mathlib.Core.Path.{◌∙◌, refl}
use lib.Dec.{eqb}
use Rattle.std.proofs.Common.{rules}
use Rattle.std.proofs.lemmas.Iterator.Consumers.{nth_from_yields_List}
use Rattle.std.proofs.lemmas.Iterator.Splits.{YieldsList-from_slice_split}
use Rattle.octets.specs.Split.{comma}
use Rattle.octets.proofs.SplitLaws.{field_by, lent_or}
use Rattle.octets.proofs.fields.field.Goals as goal

pub returns : goal.returns
returns c =
    let a = c.args in
    let s = c.split.ensures in
    let parts = nth_from_yields_List c.nth.result _ a.k c.nth.ensures.ran (YieldsList-from_slice_split _ (λ b. eqb b comma) a.line.now s.rest s.done s.closure (λ x r q k. search rules)) in
    lent_or c.nth.result _ _ _ c.unwrap_or.ensures refl parts ∙ field_by a.line.now a.k
