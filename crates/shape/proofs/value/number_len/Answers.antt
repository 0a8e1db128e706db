use Rattle.std.proofs.Common.{arith}
use Rattle.shape.proofs.Figures.{length_figures}
use Rattle.shape.proofs.value.number_len.Goals as goal

pub overflow_add-len : goal.overflow_add-len
overflow_add-len c = omega (arith, length_figures 20 c.unsigned_abs-size.result (omega arith) (omega arith) (omega arith))
