use Rattle.hs1.proofs.Laws.{sealed_opens}
use Rattle.hs1.proofs.sealed_opens.Goals as goal

pub returns : goal.returns
returns c = sealed_opens
