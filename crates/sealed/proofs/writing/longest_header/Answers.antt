use Rattle.std.proofs.Common.{refl}
use Rattle.sealed.proofs.Lengths.{longest_header_is}
use Rattle.sealed.proofs.writing.longest_header.Goals as goal

pub returns : goal.returns
returns c = record { value = refl; longest = longest_header_is }
