use Rattle.std.proofs.Common.{◌≡◌, suc, ◌/◌, bit_xor, ap, sym, ◌∙◌, arith}
use lib.Bits.{xor_zero_r}
use Rattle.field.specs.Field.{times, product, xtime}
use Rattle.field.proofs.Products.{bit_one, bit_zero}
use Rattle.field.proofs.multiply.Goals as goal
use Rattle.field.proofs.multiply.Goals.{then-bits-eq1, else-bits-eq1}

pub loop-i-preserved : goal.loop-i-preserved
loop-i-preserved c n h =
    let sum = c.loop-i.sum in
    let a = c.loop-i.power in
    let b = c.loop-i.bits in
    let more : bit_xor sum (times (suc n) a b) ≡ times 8 c.args.a c.args.b = c.loop-i.invariant (suc n) (omega arith) in
    let next : c.double-power.result ≡ xtime a = c.double-power.ensures in
    let turn : bit_xor c.if-bits-eq1.sum (times n (xtime a) (b / 2)) ≡ bit_xor sum (times (suc n) a b) =
    elim c.if-bits-eq1.branch [
      | then-bits-eq1 w ↦ ap (λ s. bit_xor s (times n (xtime a) (b / 2))) w.sum-is ∙ sym (bit_one sum a b (times n (xtime a) (b / 2)) w.if-bits-eq1.true)
      | else-bits-eq1 w ↦ ap (λ s. bit_xor s (times n (xtime a) (b / 2))) w.sum-is ∙ sym (bit_zero sum a b (times n (xtime a) (b / 2)) (omega (arith, w.if-bits-eq1.false)))
    ] in
    ap (λ p. bit_xor c.if-bits-eq1.sum (times n p (b / 2))) next ∙ turn ∙ more

pub returns : goal.returns
unfolding product
returns c = sym (xor_zero_r c.loop-i.sum) ∙ c.loop-i.invariant 0 (omega arith)
