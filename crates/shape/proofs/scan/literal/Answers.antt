use Rattle.std.proofs.Common.{◌<◌, length, arith}
use Rattle.shape.proofs.Parts.{literal_shared, literal_fault}
use Rattle.shape.proofs.scan.literal.Goals as goal

pub returns-then-n-text : goal.returns-then-n-text
returns-then-n-text c = literal_shared c.args.text.now c.args.s.now c.shared-n.result c.shared-n.ensures c.if-n-text.true

pub returns-else-n-text : goal.returns-else-n-text
returns-else-n-text c =
    let h = c.shared-n.ensures in
    let few : c.shared-n.result < length c.args.text.now = omega (arith, h.few) in
    literal_fault c.args.text.now c.args.s.now c.shared-n.result h.fits few h.same (λ l e. h.stops l few e)
