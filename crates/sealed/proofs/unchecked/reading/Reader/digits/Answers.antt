use Rattle.std.proofs.Common.{◌*◌, ◌≤◌, length, drop, refl, arith}
use Rattle.std.proofs.lemmas.List.{take_rest}
use Rattle.shape.specs.Token.{Runs}
use Rattle.sealed.specs.Hex.{HexDigit}
use Rattle.sealed.proofs.Scans.{digits_missed, digits_found}
use Rattle.sealed.proofs.unchecked.reading.Reader.digits.Goals as goal

pub returns-then-n-eq1-clause-reads : goal.returns-then-n-eq1-clause-reads
returns-then-n-eq1-clause-reads c =
    let s = c.args.self.now.line.now in
    let mid = c.literal.new.self.at in
    let o = c.in_ok-literal.ensures.reads in
    let within : mid ≤ length s = rw (← c.literal.ensures.same) c.literal.new.self.within in
    let run : Runs HexDigit (2 * c.args.most) (drop mid s) c.hex_run-n.result = rw (take_rest, c.literal.ensures.same) at c.hex_run-n.ensures in
    digits_missed c.args.text.now s c.args.self.now.at mid o.0 within o.1 c.args.most c.hex_run-n.result run 0 c.if-n-eq1.true

pub returns-clause-reads : goal.returns-clause-reads
returns-clause-reads c =
    let s = c.args.self.now.line.now in
    let mid = c.literal.new.self.at in
    let o = c.in_ok-literal.ensures.reads in
    let within : mid ≤ length s = rw (← c.literal.ensures.same) c.literal.new.self.within in
    let run : Runs HexDigit (2 * c.args.most) (drop mid s) c.hex_run-n.result = rw (take_rest, c.literal.ensures.same) at c.hex_run-n.ensures in
    digits_found c.args.text.now s c.args.self.now.at mid o.0 within o.1 c.args.most c.hex_run-n.result run _ (omega arith) (rw (take_rest, c.literal.ensures.same) refl)
