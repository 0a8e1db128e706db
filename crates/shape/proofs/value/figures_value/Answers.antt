use Rattle.std.proofs.Common.{◌+◌, ◌*◌, ap, ◌∙◌, arith}
use Rattle.std.proofs.ByRecursion.{All-get_or}
use Rattle.shape.specs.Form.{Digit}
use Rattle.shape.proofs.Figures.{front_value, next_value, whole_value}
use Rattle.shape.proofs.value.figures_value.Goals as goal

pub overflow_mul-value : goal.overflow_mul-value
overflow_mul-value c = omega (arith, front_value c.args.digits.now c.loop-digit.digit-index c.loop-digit.value c.requires c.loop-digit-test.true c.loop-digit.invariant)

pub overflow_sub-digit : goal.overflow_sub-digit
overflow_sub-digit c = omega (arith, All-get_or Digit c.args.digits.now c.loop-digit.digit-index 0 c.loop-digit-test.true c.requires.2)

pub overflow_add-value : goal.overflow_add-value
overflow_add-value c =
    omega (arith, front_value c.args.digits.now c.loop-digit.digit-index c.loop-digit.value c.requires c.loop-digit-test.true c.loop-digit.invariant, All-get_or Digit c.args.digits.now c.loop-digit.digit-index 0 c.loop-digit-test.true c.requires.2, c.from.ensures)

pub loop-digit-preserved : goal.loop-digit-preserved
loop-digit-preserved c =
    ap (λ d. c.loop-digit.value * 10 + d) c.from.ensures ∙ next_value c.args.digits.now c.loop-digit.digit-index c.loop-digit.value c.requires c.loop-digit-test.true c.loop-digit.invariant

pub returns : goal.returns
returns c = whole_value c.args.digits.now c.loop-digit.digit-index c.loop-digit.value c.requires c.loop-digit-test.false c.loop-digit.invariant
