use Rattle.std.proofs.Common.{◌≡◌, ◌+◌, ◌-◌, ◌*◌, ◌/◌, ◌%◌, ap, ◌∙◌, arith}
use Rattle.stream.proofs.Masks.{first_turn, turn, upto}
use Rattle.stream.proofs.xor_blocks.Goals as goal

pub loop-index-init : goal.loop-index-init
loop-index-init g c =
    let f = g.B.Blocks.byte c.args.blocks.now in
    let p = c.args.place in
    let here : 64 - p % 64 ≡ 64 * (p / 64 + 1) - p = omega arith in
    first_turn f c.args.buf.now _ _ p (p / 64) (p % 64) c.block.ensures (omega arith) c.xor_bytes.ensures ∙ ap (upto f p c.args.buf.now) here

pub loop-index-preserved : goal.loop-index-preserved
loop-index-preserved g c =
    let f = g.B.Blocks.byte c.args.blocks.now in
    let was = c.args.buf.now in
    let p = c.args.place in
    let q = c.loop-index.index in
    let d = c.div_ceil-index-end.ensures in
    let there : (64 * q - p) + 64 ≡ 64 * (q + 1) - p = omega arith in
    turn f was c.loop-index.buf _ _ p (64 * q - p) q (omega arith) c.loop-index.invariant c.block-in-loop-index.ensures (omega arith) c.xor_bytes-in-loop-index.ensures ∙ ap (upto f p was) there
