use Rattle.std.proofs.Common.{refl, arith}
use Rattle.std.proofs.lemmas.List.{get_or-replicate}
use Rattle.hash.proofs.Blocks.{none_waits}
use Rattle.hash.proofs.Whole.{hashes_le}
use Rattle.hash.proofs.Hasher.new.Goals as goal

pub returns : goal.returns
returns c = none_waits c.args.strength _ refl c.new.ensures (λ i lt. get_or-replicate 6 i 1 0 (omega (arith, hashes_le c.args.strength)))
