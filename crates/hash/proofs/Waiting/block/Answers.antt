use Rattle.std.proofs.Common.{◌≡◌, length, sym, ap, ◌∙◌, arith}
use Rattle.std.proofs.lemmas.List.{length-take-le}
use Rattle.hash.proofs.Results.{fill_front}
use Rattle.hash.proofs.Waiting.block.Goals as goal

pub returns : goal.returns
returns c =
    let fill = c.self.inside.fill in
    let n : fill ≡ length c.args.self.now = sym (length-take-le fill c.self.inside.bytes (omega (arith, c.self.invariant, c.self.told))) ∙ ap length c.self.view_is in
    fill_front 64 fill c.args.self.now c.copy_from_slice.new.self n (c.copy_from_slice.ensures.after ∙ c.self.view_is)
