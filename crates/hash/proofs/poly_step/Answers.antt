use Rattle.std.proofs.Common.{◌≡◌, ◌*◌, ◌/◌, ◌%◌, ◌^◌, ap, ◌∙◌, add_comm, arith}
use Rattle.hash.specs.Hash.{turn, prime}
use Rattle.hash.proofs.Poly.{step, folded, product_le, digits_more, ended}
use Rattle.hash.proofs.poly_step.Goals as goal

pub overflow_mul-product : goal.overflow_mul-product
overflow_mul-product c = omega (arith, product_le c.loop-i.power c.loop-i.digits c.loop-i.invariant.2)

pub loop-i-preserved : goal.loop-i-preserved
loop-i-preserved c =
    let w = c.loop-i.power in
    let d = c.loop-i.digits in
    let le = product_le w d c.loop-i.invariant.2 in (
      step c.loop-i.low c.loop-i.high w d ∙ c.loop-i.invariant.0,
      digits_more d _ c.loop-i._i c.loop-i.invariant.1,
      omega arith,
      omega arith,
      omega arith,
    )

pub returns : goal.returns
unfolding turn
returns c =
    let n : c.loop-i._i ≡ 20 = omega arith in
    let k = c.args.k in
    let x = c.args.h * (k % 2 ^ 60) in
    folded c.loop-i.low c.loop-i.high
    ∙ ended c.loop-i.low c.loop-i.high c.loop-i.power c.loop-i.digits k c.args.a _ (c.loop-i.invariant.1 ∙ ap (λ j. (k % 2 ^ 60) / 8 ^ j) n) c.loop-i.invariant.0
    ∙ ap (λ y. y % prime) (add_comm c.args.a x)
