use Rattle.std.proofs.Common.{◌≡◌, ℕ, ◌≤◌, List, length, subst, arith}
use Rattle.kinds.specs.Text.{text_of}
use Rattle.sheet.specs.Sheet.{sheet_line}
use Rattle.boxlaws.proofs.Opens.{never_refused}
use Rattle.boxlaws.proofs.seal_then_open.Goals as goal

pub returns-in_err-len : goal.returns-in_err-len
returns-in_err-len g c within good sheet room bytes places =
    let one : 1 ≡ c.in_ok-ticket.ticket.serial = omega (arith, c.in_ok-ticket.ensures.drawn.1, c.new.ensures) in
    let L : ℕ → List ℕ = λ m. sheet_line (g.S.Stream.meaning c.args.cipher.stream) c.args.cipher.strength c.args.to.slot g.K.Kind.NUMBER m c.args.to.key.now (text_of g.K.Kind.line c.args.items.now) in
    absurd (never_refused g.K.Kind.lawful g.K.Kind.line c.args.to.slot c.args.to.key.now c.args.items.now (L c.in_ok-ticket.ticket.serial) (length c.args.work.now) c.args.out.now _ c.seal-sealed.result c.in_err-len.ensures.variant within good sheet (subst (λ m. length (L m) ≤ length c.args.out.now) one room) bytes c.seal-sealed.ensures.answer)
