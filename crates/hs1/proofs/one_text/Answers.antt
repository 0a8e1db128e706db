use Rattle.hs1.proofs.Laws.{one_text}
use Rattle.hs1.proofs.one_text.Goals as goal

pub returns : goal.returns
returns c = one_text
