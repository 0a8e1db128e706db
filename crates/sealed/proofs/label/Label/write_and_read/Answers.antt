use Rattle.std.proofs.Common.{arith}
use Rattle.sealed.specs.Line.{parts_in}
use Rattle.sealed.proofs.Backs.{reads_back, all_bytes}
use Rattle.sealed.proofs.label.Label.write_and_read.Goals as goal

pub returns : goal.returns
returns c =
    reads_back (parts_in c.args.self.slot c.args.self.kind c.args.self.serial c.args.siv.now c.args.text.now) c.args.out.now _ c.in_ok-n.n (omega arith) (all_bytes _ (λ i. (c.type_inv.siv i).fits)) (all_bytes _ (λ i. (c.type_inv.text i).fits)) c.in_ok-n.ensures c.read.result c.read.ensures.reads
