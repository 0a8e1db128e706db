use Rattle.std.proofs.Common.{[], ◌∙◌, subst}
use Rattle.hash.specs.Hasher.{Holds}
use Rattle.hash.proofs.Ints.{str_eight}
use Rattle.hash.proofs.Whole.{message_is}
use Rattle.hash.proofs.hash_message.Goals as goal

pub returns : goal.returns
returns c =
    let s = c.args.strength in
    let keys = c.args.keys.now in
    let padded = c.absorb_padded-2.ensures s keys _ (c.absorb_padded.ensures s keys [] c.new-hasher.ensures) in
    let h = c.absorb-2.ensures s keys _ (c.absorb.ensures s keys _ padded) in
    let e = message_is c.args.header.now c.args.text.now _ _ (c.to_le_bytes.ensures ∙ str_eight _) (c.to_le_bytes-2.ensures ∙ str_eight _) in
    c.finish.ensures s keys _ (subst (Holds s keys _) e h)
