use Rattle.std.proofs.Common.{ap, ◌∙◌, ◌++◌, take, drop}
use Rattle.aes.proofs.Lists.{tail_written}
use Rattle.aes.proofs.Ready.counted.Goals as goal

pub returns : goal.returns
returns c =
    let n = c.copy_from_slice.ensures.after in
    let count = c.copy_from_slice-2.ensures.after ∙ ap (λ b. take 4 (drop 4 b)) c.to_be_bytes.ensures in
    tail_written c.copy_from_slice.new.self _ 0 0 0 0 c.copy_from_slice.ensures.len ∙ ap (λ x. x ++ c.copy_from_slice-2.new.self) n ∙ ap (λ x. c.args.self.now.nonce ++ x) count
