use mathlib.Core.Path.{sym, ◌∙◌}
use lib.Dec.{eqb}
use Rattle.std.proofs.Common.{rules, tests, ◌≡◌}
use Rattle.std.proofs.lemmas.Iterator.{YieldsList-from_slice}
use Rattle.std.proofs.lemmas.Iterator.Search.{position_from_yields_List}
use Rattle.std.specs.List.{position}
use Rattle.octets.proofs.SearchLaws.{nothing_past, found_in_rest, nothing_in_rest}
use Rattle.octets.proofs.parts.index_from.Goals as goal

pub returns-in_err-get : goal.returns-in_err-get
returns-in_err-get c =
    let a = c.args in
    c.from_residual.ensures ∙ nothing_past a.s.now a.at a.b (search rules)

pub returns-in_err-i : goal.returns-in_err-i
returns-in_err-i c =
    let a = c.args in
    let rest = c.in_ok-get.field-0.now in
    let found : c.position.result ≡ position (λ x. eqb x a.b) rest = position_from_yields_List _ _ _ _ c.position.ensures.ran (YieldsList-from_slice _ c.iter.ensures.rest) (λ x b q k. search (rules, tests)) in
    let g = c.in_ok-get.ensures.lookup.0 in
    c.from_residual-in_err-i.ensures ∙ nothing_in_rest a.s.now a.at a.b rest g.2 g.0 (sym c.in_err-i.was ∙ found)

pub returns : goal.returns
returns c =
    let a = c.args in
    let rest = c.in_ok-get.field-0.now in
    let found : c.position.result ≡ position (λ x. eqb x a.b) rest = position_from_yields_List _ _ _ _ c.position.ensures.ran (YieldsList-from_slice _ c.iter.ensures.rest) (λ x b q k. search (rules, tests)) in
    let g = c.in_ok-get.ensures.lookup.0 in
    found_in_rest a.s.now a.at a.b rest g.2 g.0 c.in_ok-i.i (sym c.in_ok-i.was ∙ found)
