use Rattle.std.proofs.Common.{◌≡◌, ◌+◌, ◌-◌, ◌*◌, refl, arith, ◌∙◌}
use Rattle.chacha.specs.Words.{write_part}
use Rattle.chacha.proofs.serialise.Goals as goal

pub loop-j-preserved : goal.loop-j-preserved
loop-j-preserved c =
    let j = c.loop-j.j in
    let n : (4 * j + 4) - 4 * j ≡ 4 = omega arith in
    rw n (write_part c.args.s.now _ c.loop-j.out c.copy_from_slice.new.self j (omega arith) c.loop-j.invariant (c.copy_from_slice.ensures.after ∙ rw c.to_le_bytes.ensures refl))
