use Rattle.std.proofs.Common.{◌≡◌, ◌+◌, ◌≤◌, length, drop, Ok, Err, rules}
use Rattle.std.proofs.lemmas.List.{take_rest}
use Rattle.std.proofs.lemmas.Result.{err_from_is_err_and}
use Rattle.sealed.specs.Frame.{ReadsValue}
use Rattle.sealed.proofs.Mapped.{mapped_ok, mapped_err}
use Rattle.sealed.proofs.Scans.{token_missed, token_found}
use Rattle.sealed.proofs.unchecked.reading.Reader.number.Goals as goal

pub returns-in_err-found-clause-reads : goal.returns-in_err-found-clause-reads
returns-in_err-found-clause-reads c =
    let s = c.args.self.now.line.now in
    let mid = c.literal.new.self.at in
    let o = c.in_ok-literal.ensures.reads in
    let within : mid ≤ length s = rw (← c.literal.ensures.same) c.literal.new.self.within in
    let e = mapped_err _ _ c.read_value.result _ c.map_err.ensures.cases c.in_err-found.was in
    let v : ReadsValue c.args.low c.args.high (drop mid s) (Err e.0) = rw (take_rest, c.literal.ensures.same, e.1) at c.read_value.ensures in
    let p = err_from_is_err_and c.from_residual-in_err-found.result c.from_residual-in_err-found.ensures.1 in
    let d : c.in_err-found.field-0.0 ≡ mid + e.0 = search rules in
    rw (p.1, p.2, d) (token_missed _ s c.args.self.now.at mid o.0 within o.1 _ _ v)

pub returns-clause-reads : goal.returns-clause-reads
returns-clause-reads c =
    let s = c.args.self.now.line.now in
    let mid = c.literal.new.self.at in
    let o = c.in_ok-literal.ensures.reads in
    let within : mid ≤ length s = rw (← c.literal.ensures.same) c.literal.new.self.within in
    let e = mapped_ok _ _ c.read_value.result _ c.map_err.ensures.cases c.in_ok-found.was in
    let v : ReadsValue c.args.low c.args.high (drop mid s) (Ok c.in_ok-found.found) = rw (take_rest, c.literal.ensures.same, e) at c.read_value.ensures in
    let f = token_found _ s c.args.self.now.at mid o.0 within o.1 _ _ _ v.0 v.1 in
    (f.0, f.1, v.2, v.3, f.2)
