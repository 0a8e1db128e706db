use Rattle.std.proofs.Common.{ap, ◌∙◌, arith, rules}
use Rattle.aes.specs.Aes.{encrypted}
use Rattle.aes.proofs.Lists.{part_is}
use Rattle.aes.proofs.Ready.part.Goals as goal

pub returns : goal.returns
returns c =
    part_is c.args.self.now.expanded c.args.self.now.nonce c.encrypt.result c.args.index c.args.q _ (search rules) (search rules) (c.encrypt.ensures ∙ ap (encrypted c.args.self.now.expanded) c.counted.ensures) (omega (arith, c.from.ensures, c.from-2.ensures))
