use mathlib.Core.Path.{◌∙◌, sym}
use native.Mathlib.Numerals.{add-one}
use native.Mathlib.Omega.{arith}
use Rattle.sheet.proofs.PlaceLaws.{byte_at, digit_at}
use Rattle.sheet.proofs.NumberRunLaws.{number_alone, run_none, run_more, run_large, run_said}
use Rattle.sheet.proofs.numbers.number_at.Goals as goal

pub overflow_add-result : goal.overflow_add-result
overflow_add-result c =
    let a = c.args in
    omega (arith, byte_at a.file.now a.at 48 (sym c.is_at.ensures ∙ c.if-is_at.true))

pub returns-then-is_at : goal.returns-then-is_at
returns-then-is_at c =
    let a = c.args in
    sym (number_alone a.file.now a.at (sym c.is_at.ensures ∙ c.if-is_at.true))

pub loop-digit-init : goal.loop-digit-init
loop-digit-init c = run_none c.args.file.now c.args.at

pub overflow_add-i : goal.overflow_add-i
overflow_add-i c = omega (arith, (digit_at _ _ _ c.in-Some.ensures).inside)

pub loop-digit-smaller : goal.loop-digit-smaller
loop-digit-smaller c = omega (arith, (digit_at _ _ _ c.in-Some.ensures).inside)

pub overflow_mul-value : goal.overflow_mul-value
overflow_mul-value c = omega (arith, c.loop-digit.invariant.fits)

pub overflow_add-value : goal.overflow_add-value
overflow_add-value c = omega (arith, c.loop-digit.invariant.fits, (digit_at _ _ _ c.in-Some.ensures).small)

pub returns-then-value-gt-LARGEST : goal.returns-then-value-gt-LARGEST
returns-then-value-gt-LARGEST c = sym (run_large c.loop-digit.invariant (sym c.is_at.ensures ∙ c.if-is_at.false) (digit_at _ _ _ c.in-Some.ensures) (omega (arith, c.if-value-gt-LARGEST.true)))

pub loop-digit-preserved : goal.loop-digit-preserved
loop-digit-preserved c = rw (add-one c.loop-digit.i) (run_more c.loop-digit.invariant (digit_at _ _ _ c.in-Some.ensures) (omega (arith, c.if-value-gt-LARGEST.false)))

pub returns : goal.returns
returns c = c.then_some.ensures ∙ sym (run_said c.loop-digit.invariant (sym c.is_at.ensures ∙ c.if-is_at.false) c.in_default.ensures)
