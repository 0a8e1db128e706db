use Rattle.std.proofs.Common.{◌++◌, length, ap, ◌∙◌}
use Rattle.std.proofs.lemmas.List.{drop-replicate}
use Rattle.sealed.specs.Hex.{bytes_of}
use Rattle.sealed.proofs.unchecked.opening.siv_of.Goals as goal

pub returns : goal.returns
returns c =
    let p = c.put_bytes-len.ensures in
    let b = bytes_of c.args.digits.now in
    (p.len, p.after ∙ ap (λ z. b ++ z) (drop-replicate (length b) 32 0))
