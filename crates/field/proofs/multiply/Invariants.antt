use Rattle.std.proofs.Common.{◌≡◌, ℕ, ◌+◌, bit_xor}
use Rattle.field.specs.Field.{times}
use Rattle.field.proofs.multiply.Given as goal

abbrev pub invariant-loop-i : goal.invariant-loop-i
invariant-loop-i l = (n : ℕ) → n + l._i ≡ 8 → bit_xor l.sum (times n l.power l.bits) ≡ times 8 l.a l.b
