use Rattle.std.proofs.Common.{sym}
use Rattle.sealed.proofs.Overs.{length_bytes}
use Rattle.sealed.proofs.unchecked.Ciphertext.len.Goals as goal

pub returns : goal.returns
returns c = sym (length_bytes c.args.self.now.digits.now)
