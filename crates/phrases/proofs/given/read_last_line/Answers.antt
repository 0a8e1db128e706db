use Rattle.phrases.proofs.Inner.{last_read}
use Rattle.phrases.proofs.given.read_last_line.Goals as goal

pub returns : goal.returns
returns c = last_read _ _ _ c.in_ok-between.ensures c.read_number.ensures
