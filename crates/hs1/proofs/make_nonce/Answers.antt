use Rattle.std.proofs.Common.{[], ◌∷◌, ◌++◌, ap, ◌∙◌, arith}
use Rattle.hash.proofs.Ints.{str_eight}
use Rattle.hs1.proofs.Keys.{nonce_is}
use Rattle.hs1.proofs.make_nonce.Goals as goal

pub returns : goal.returns
returns c =
    ap (λ x. x ++ (0 ∷ 0 ∷ 0 ∷ 0 ∷ [])) (c.copy_from_slice.ensures.after ∙ c.to_le_bytes.ensures ∙ str_eight _)
    ∙ nonce_is c.args.strength c.args.rounds c.args.key_len c.hashes.result c.siv_len.result _ c.hashes.ensures c.siv_len.ensures (omega arith) (omega arith) (omega arith)
