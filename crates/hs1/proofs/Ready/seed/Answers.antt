use Rattle.std.proofs.Common.{rules, ◌∙◌}
use Rattle.hs1.proofs.Strings.{xor_whole}
use Rattle.hs1.proofs.Ready.seed.Goals as goal

pub returns : goal.returns
returns c = c.xor_bytes.ensures ∙ xor_whole _ _ (search rules) (search rules)
