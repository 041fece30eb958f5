use mathlib.Core.Path.{◌∙◌, sym}
use native.Mathlib.Omega.{arith}
use native.Mathlib.Numerals.{add-one}
use Rattle.sheet.proofs.HexRunLaws.{hex_here, run_none, run_fits, run_more, run_nine, run_said}
use Rattle.sheet.proofs.word_fields.hex_run.Goals as goal

pub loop-digit-init : goal.loop-digit-init
loop-digit-init c = run_none c.args.s.now c.args.at

pub overflow_sub-i : goal.overflow_sub-i
overflow_sub-i c = omega (arith, c.loop-digit.invariant.from)

pub returns-then-i-at-eq-MOST_DIGITS : goal.returns-then-i-at-eq-MOST_DIGITS
returns-then-i-at-eq-MOST_DIGITS c = sym (run_nine c.loop-digit.invariant c.in-Some.ensures c.if-i-at-eq-MOST_DIGITS.true)

pub overflow_mul-value : goal.overflow_mul-value
overflow_mul-value c = omega (arith, run_fits c.loop-digit.invariant c.in-Some.ensures c.if-i-at-eq-MOST_DIGITS.false)

pub overflow_add-value : goal.overflow_add-value
overflow_add-value c = omega (arith, run_fits c.loop-digit.invariant c.in-Some.ensures c.if-i-at-eq-MOST_DIGITS.false)

pub overflow_add-i : goal.overflow_add-i
overflow_add-i c = omega (arith, (hex_here _ _ _ c.in-Some.ensures).inside)

pub loop-digit-smaller : goal.loop-digit-smaller
loop-digit-smaller c = omega (arith, (hex_here _ _ _ c.in-Some.ensures).inside)

pub loop-digit-preserved : goal.loop-digit-preserved
loop-digit-preserved c = rw (add-one c.loop-digit.i) (run_more c.loop-digit.invariant c.in-Some.ensures c.if-i-at-eq-MOST_DIGITS.false)

pub returns : goal.returns
returns c = c.then_some.ensures ∙ sym (run_said c.loop-digit.invariant c.in_default.ensures)
