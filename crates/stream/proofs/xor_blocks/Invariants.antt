use Rattle.std.proofs.Common.{◌≡◌, ◌-◌, ◌*◌}
use Rattle.stream.proofs.Masks.{upto}
use Rattle.stream.proofs.xor_blocks.Given as goal

abbrev pub invariant-loop-index : goal.invariant-loop-index
invariant-loop-index g l =
    l.buf ≡ upto (g.B.Blocks.byte l.blocks) l.place l.fn.buf (64 * l.index - l.place)
