use Rattle.std.proofs.Common.{◌≡◌, ◌/◌, [], ◌∷◌, ◌++◌, ap, ◌∙◌, arith}
use Rattle.hash.proofs.Ints.{str_four}
use Rattle.sheet.specs.Sheet.{nonce_of}
use Rattle.sheet.proofs.nonce.Goals as goal

pub returns : goal.returns
unfolding nonce_of
returns c =
    let z : c.args.serial / 256 / 256 / 256 / 256 ≡ 0 = omega arith in
    rw z (ap (λ x. x ++ (0 ∷ 0 ∷ 0 ∷ 0 ∷ 0 ∷ 0 ∷ 0 ∷ 0 ∷ [])) (c.copy_from_slice.ensures.after ∙ c.to_le_bytes.ensures ∙ str_four _))
