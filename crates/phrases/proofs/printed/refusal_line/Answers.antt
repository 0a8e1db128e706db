use Rattle.std.proofs.Common.{◌++◌, codes, refl, arith}
use Rattle.phrases.specs.Printed.{values}
use Rattle.phrases.proofs.Spelled.{made_as, one_number}
use Rattle.phrases.proofs.printed.refusal_line.Goals as goal

pub returns : goal.returns
returns c = made_as c.format.result _ _ _ (one_number (codes "(refused ") _ (values c.args.why ++ codes ")\n") _ _ c.number-number.ensures (omega arith) refl) c.format.ensures.ok
