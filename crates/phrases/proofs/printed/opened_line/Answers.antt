use Rattle.std.proofs.Common.{codes, refl, arith}
use Rattle.phrases.proofs.Spelled.{made_as, one_number}
use Rattle.phrases.proofs.printed.opened_line.Goals as goal

pub returns : goal.returns
returns c = made_as c.format.result _ _ _ (one_number (codes "(opened ") (codes ")\n") (codes ")\n") c.args.count c.args.count refl (omega arith) refl) c.format.ensures.ok
