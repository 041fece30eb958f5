use mathlib.Core.Path.{refl, sym, ◌∙◌}
use native.Mathlib.Omega.{arith}
use Rattle.octets.specs.Split.{LF}
use Rattle.octets.proofs.WordLaws.{index_skip}
use Rattle.octets.proofs.search.find_lf.Goals as goal

pub word_at-requires : goal.word_at-requires
word_at-requires c = omega (arith, c.loop-i-test.true, c.saturating_sub-places.ensures)

pub overflow_add-i : goal.overflow_add-i
overflow_add-i c =
    let t = c.loop-i-test.true in
    let n = c.saturating_sub-places.ensures in
    record { fits = omega arith }

pub loop-i-preserved : goal.loop-i-preserved
loop-i-preserved c =
    let s = c.args.file.now in
    let l = c.loop-i in
    let n = c.saturating_sub-places.ensures in
    let t = c.loop-i-test.true in
    let none = rw c.word_at.ensures at (sym c.has_lf.ensures ∙ c.if-has_lf.false) in
    omega (arith, l.invariant, index_skip LF s l.i 8 (omega arith) none)

pub loop-i-init : goal.loop-i-init
loop-i-init c = refl

pub loop-i-smaller : goal.loop-i-smaller
loop-i-smaller c = let t = c.loop-i-test.true in omega arith
