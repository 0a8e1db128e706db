use Rattle.hash.proofs.Blocks.{holds_padded}
use Rattle.hash.proofs.Hasher.absorb_padded.Goals as goal

pub returns : goal.returns
returns c =
    λ strength keys seen h. holds_padded strength keys _ seen c.args.part.now (c.absorb-2.ensures strength keys _ (c.absorb.ensures strength keys seen h))
