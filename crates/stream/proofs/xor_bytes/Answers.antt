use Rattle.std.proofs.Common.{ℕ, arith, bit_xor, length-take}
use Rattle.stream.proofs.Masks.{zip_all}
use Rattle.stream.proofs.xor_bytes.Goals as goal

pub returns : goal.returns
returns c =
    zip_all bit_xor c.loop-i.part c.args.part.now c.args.pad.now c.loop-i.auto.part
    (λ k a b. c.loop-i.invariant.0 k (omega (arith, length-take {A = ℕ})))
    (λ k a. c.loop-i.invariant.1 k (omega (arith, length-take {A = ℕ})))
