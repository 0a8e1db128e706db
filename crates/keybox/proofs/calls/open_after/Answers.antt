use Rattle.std.proofs.Common.{[], length, sym, ◌∙◌, subst, append-nil}
use Rattle.refusal.specs.declared.Refusal.{Refusal}
use Rattle.book.specs.Law.{OpenLaw}
use Rattle.book.specs.Stands.{Stands}
use Rattle.sheet.specs.Sheet.{sheet_line}
use Rattle.keybox.proofs.calls.open_after.Goals as goal

pub returns : goal.returns
returns g c =
    let h = g.P.Calls.calls c.args.before in
    let made = c.new-b.ensures in
    let played = c.play.ensures in
    let meaning = g.S.Stream.meaning in
    let slots = c.play.new.b.table.slots in
    let sealing = sheet_line (meaning c.new-b.result.cipher.stream) c.new-b.result.cipher.strength in
    let stood : Stands sealing slots h = subst (Stands sealing slots) (append-nil h) (played.noted [] (made.stands sealing)) in
    let stands = subst (λ x. Stands (sheet_line (meaning x.stream) x.strength) slots h) (sym played.kept) stood in
    let law = c.open_line.ensures.law h stands in
    subst (λ x. OpenLaw (sheet_line (meaning x.stream) x.strength) g.K.Kind.lawful g.K.Kind.line g.K.Kind.NUMBER {E = Refusal} h c.args.line.now (length c.args.work.now) c.args.tray.now.items.now c.open_line.new.tray.items.now c.open_line.result) (played.kept ∙ made.cipher) law
