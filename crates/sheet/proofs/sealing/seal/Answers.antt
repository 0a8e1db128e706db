use Rattle.std.proofs.Common.{ℕ, length, Ok, subst, arith}
use Rattle.kinds.specs.Text.{text_of}
use Rattle.hash.specs.declared.Strength.{Strength}
use Rattle.book.specs.Answers.{set_checks}
use Rattle.sheet.specs.Sheet.{sheet_line}
use Rattle.sheet.specs.Sealing.{SealedAs, OneList}
use Rattle.sheet.proofs.Answered.{seals_to, reads_as}
use Rattle.sheet.proofs.Lists.{one_list_is}
use Rattle.sheet.proofs.sealing.seal.Given as given
use Rattle.sheet.proofs.sealing.seal.Goals as goal

-- two lists that seal to one line are the same
one : (g : given.Over) (x : g.row.S.Denot) (s : Strength) → OneList (sheet_line (g.S.Stream.meaning x) s) g.K.Kind.lawful g.K.Kind.line g.K.Kind.NUMBER
one g x s = one_list_is (g.S.Stream.meaning x) (g.met.S.Stream.byted x) s g.K.Kind.lawful g.K.Kind.line g.K.Kind.NUMBER g.K.Kind.reading g.met.K.Kind.numbered g.met.K.Kind.shaped g.met.K.Kind.found g.met.K.Kind.sound

pub returns-in-Ok-clause-answer : goal.returns-in-Ok-clause-answer
returns-in-Ok-clause-answer g c =
    let A : ℕ → Type 0 = λ m. SealedAs g.K.Kind.lawful g.K.Kind.line (set_checks c.args.to.slot c.args.to.key.now) c.args.items.now (sheet_line (g.S.Stream.meaning c.args.cipher.now.stream) c.args.cipher.now.strength c.args.to.slot g.K.Kind.NUMBER m c.args.to.key.now (text_of g.K.Kind.line c.args.items.now)) (length c.args.work.now) c.args.out.now c.seal_items.new.out (Ok c.in-Ok.len) in
    subst A c.serial-serial.ensures.value c.in-Ok.ensures

pub returns-in-Ok-clause-seals : goal.returns-in-Ok-clause-seals
returns-in-Ok-clause-seals g c =
    let stream = c.args.cipher.now.stream in
    seals_to g.K.Kind.lawful g.K.Kind.line c.args.items.now (g.S.Stream.meaning stream) (g.met.S.Stream.byted stream) c.args.cipher.now.strength g.K.Kind.NUMBER g.met.K.Kind.numbered g.met.K.Kind.shaped c.args.to.slot c.args.ticket.serial c.args.to.key.now c.args.ticket.numbered (omega (arith, c.serial-serial.ensures.value)) (length c.args.work.now) c.args.out.now c.seal_items.new.out c.in-Ok.len (returns-in-Ok-clause-answer g c)

pub returns-in-Ok-clause-reads : goal.returns-in-Ok-clause-reads
returns-in-Ok-clause-reads g c =
    let stream = c.args.cipher.now.stream in
    reads_as g.K.Kind.lawful g.K.Kind.line c.args.items.now (g.S.Stream.meaning stream) (g.met.S.Stream.byted stream) c.args.cipher.now.strength g.K.Kind.NUMBER g.met.K.Kind.numbered g.met.K.Kind.shaped c.args.to.slot c.args.ticket.serial c.args.to.key.now c.args.ticket.numbered (omega (arith, c.serial-serial.ensures.value)) (length c.args.work.now) c.args.out.now c.seal_items.new.out c.in-Ok.len (returns-in-Ok-clause-answer g c)

pub returns-in-Ok-clause-one : goal.returns-in-Ok-clause-one
returns-in-Ok-clause-one g c = one g c.args.cipher.now.stream c.args.cipher.now.strength

pub returns-clause-one : goal.returns-clause-one
returns-clause-one g c = one g c.args.cipher.now.stream c.args.cipher.now.strength
