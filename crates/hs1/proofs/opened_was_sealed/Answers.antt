use Rattle.hs1.proofs.Laws.{opened_was_sealed}
use Rattle.hs1.proofs.opened_was_sealed.Goals as goal

pub returns : goal.returns
returns c = opened_was_sealed
