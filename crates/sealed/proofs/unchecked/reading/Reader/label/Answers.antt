use Rattle.std.proofs.Common.{Ok, codes}
use Rattle.std.proofs.lemmas.Result.{err_from_is_err_and}
use Rattle.sealed.specs.Frame.{ReadsNumber}
use Rattle.sealed.specs.Limits.{last_slot, first_kind, last_kind}
use Rattle.sealed.proofs.Frames.{slot_fault, kind_fault, serial_fault, labelled}
use Rattle.sealed.proofs.unchecked.reading.Reader.label.Goals as goal

pub returns-in_err-slot-clause-reads : goal.returns-in_err-slot-clause-reads
returns-in_err-slot-clause-reads c =
    let p = err_from_is_err_and c.from_residual.result c.from_residual.ensures.1 in
    rw (p.1, p.2) (slot_fault c.args.self.now.line.now 0 _ (rw c.requires at c.in_err-slot.ensures.reads))

pub returns-in_err-kind-clause-reads : goal.returns-in_err-kind-clause-reads
returns-in_err-kind-clause-reads c =
    let s = c.args.self.now.line.now in
    let a : ReadsNumber (codes "(sealed (slot ") 0 last_slot s 0 c.number.new.self.at (Ok c.in_ok-slot.slot) = rw c.requires at c.in_ok-slot.ensures.reads in
    let p = err_from_is_err_and c.from_residual-in_err-kind.result c.from_residual-in_err-kind.ensures.1 in
    rw (p.1, p.2) (kind_fault s _ _ a 0 _ (rw c.number.ensures.same at c.in_err-kind.ensures.reads))

pub returns-in_err-serial-clause-reads : goal.returns-in_err-serial-clause-reads
returns-in_err-serial-clause-reads c =
    let s = c.args.self.now.line.now in
    let a : ReadsNumber (codes "(sealed (slot ") 0 last_slot s 0 c.number.new.self.at (Ok c.in_ok-slot.slot) = rw c.requires at c.in_ok-slot.ensures.reads in
    let b : ReadsNumber (codes ") (kind ") first_kind last_kind s c.number.new.self.at c.number-2.new.self.at (Ok c.in_ok-kind.kind) = rw c.number.ensures.same at c.in_ok-kind.ensures.reads in
    let p = err_from_is_err_and c.from_residual-in_err-serial.result c.from_residual-in_err-serial.ensures.1 in
    rw (p.1, p.2) (serial_fault s _ _ a _ _ b 0 _ (rw (c.number-2.ensures.same, c.number.ensures.same) at c.in_err-serial.ensures.reads))

pub returns-clause-reads : goal.returns-clause-reads
returns-clause-reads c =
    let s = c.args.self.now.line.now in
    let a : ReadsNumber (codes "(sealed (slot ") 0 last_slot s 0 c.number.new.self.at (Ok c.in_ok-slot.slot) = rw c.requires at c.in_ok-slot.ensures.reads in
    let b : ReadsNumber (codes ") (kind ") first_kind last_kind s c.number.new.self.at c.number-2.new.self.at (Ok c.in_ok-kind.kind) = rw c.number.ensures.same at c.in_ok-kind.ensures.reads in
    labelled s _ _ a _ _ b _ _ (rw (c.number-2.ensures.same, c.number.ensures.same) at c.in_ok-serial.ensures.reads)
