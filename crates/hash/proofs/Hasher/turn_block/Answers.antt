use Rattle.std.proofs.Common.{◌+◌, ◌%◌, ◌^◌, sym, ap, ◌∙◌, rules}
use Rattle.std.proofs.lemmas.List.{map-id}
use Rattle.hash.specs.Nh.{nh}
use Rattle.hash.specs.Running.{nh_part}
use Rattle.hash.proofs.Blocks.{whole_number, turns_same}
use Rattle.hash.proofs.Hasher.turn_block.Goals as goal

pub returns : goal.returns
returns c =
    let k = nh_part c.args.self.now.keys.now in
    turns_same _ _ _ _ (λ i. ap (λ x. nh (k i) x % 2 ^ 60 + 0) (sym (map-id _) ∙ c.read_words.ensures) ∙ whole_number (k i) c.args.block.now (search rules)) c.turn.ensures
