use Rattle.std.proofs.Common.{◌≡◌, length, ap, refl, arith, rules}
use Rattle.hash.proofs.Blocks.{full_block, block_turned}
use Rattle.hash.proofs.Hasher.flush.Goals as goal

pub returns-then-len-eq-BLOCK : goal.returns-then-len-eq-BLOCK
returns-then-len-eq-BLOCK c =
    let s = c.args.self.now in
    let n : length s.waiting ≡ 64 = omega arith in
    record {
      room = omega (arith, ap length c.clear.ensures);
      goes = block_turned s c.turn_block.new.self _ c.block-block.result _ (search rules) (full_block s.waiting c.block-block.result n c.block-block.ensures) c.turn_block.ensures refl refl c.clear.ensures refl;
    }
