use Rattle.std.proofs.Common.{◌+◌, ◌*◌, ◌/◌, ◌%◌, ◌^◌, get_or, ap, ◌∙◌}
use Rattle.hash.specs.Bytes.{str}
use Rattle.hash.specs.Hash.{affine}
use Rattle.hash.proofs.Ints.{str_four, str_wrapped}
use Rattle.hash.proofs.Wrap.{affine_sum}
use Rattle.hash.proofs.affine_bytes.Goals as goal

pub returns : goal.returns
unfolding affine
returns c =
    let k = c.args.k.now in
    let h = c.args.h in
    let low = get_or k 1 0 * (h % 2 ^ 32) in
    let high = get_or k 2 0 * (h / 2 ^ 32) in
    c.to_le_bytes.ensures
    ∙ str_four _
    ∙ ap (λ x. str 4 (x / 2 ^ 32)) (affine_sum (get_or k 0 0) low high)
    ∙ str_wrapped (get_or k 0 0 + low + high)
