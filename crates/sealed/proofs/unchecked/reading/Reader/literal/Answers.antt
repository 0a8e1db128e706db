use Rattle.std.proofs.Common.{◌≡◌, drop, Ok, arith}
use Rattle.std.proofs.lemmas.List.{take_rest, length-drop}
use Rattle.shape.specs.Outcome.{Outcome, Is}
use Rattle.shape.proofs.Carry.{read_fits}
use Rattle.sealed.proofs.Mapped.{mapped_ok}
use Rattle.sealed.proofs.unchecked.reading.Reader.literal.Goals as goal

pub invariant_of-self : goal.invariant_of-self
invariant_of-self c =
    let s = c.args.self.now.line.now in
    let e : c.literal.result ≡ Ok c.in_ok-n.n = mapped_ok _ _ c.literal.result c.in_ok-n.n c.map_err.ensures.cases c.in_ok-n.was in
    let o : Outcome (Is c.args.text.now) (drop c.args.self.now.at s) (Ok c.in_ok-n.n) = rw (take_rest, e) at c.literal.ensures in
    record { within = omega (arith, read_fits _ _ _ o, length-drop c.args.self.now.at s, c.args.self.now.within) }
