use Rattle.std.proofs.Common.{◌≡◌, ℕ, [], ◌∷◌, length, vec_len, ap, ◌∙◌, subst}
use Rattle.book.specs.Book.{opening, kind_of}
use Rattle.book.specs.Stands.{Noted}
use Rattle.sheet.specs.Sheet.{sheet_line}
use Rattle.keybox.proofs.calls.OpenLineOneCall.make.Goals as goal

pub returns : goal.returns
returns g c =
    let opened = c.open_line.ensures in
    let b = c.args.b.now in
    let N : (work tray : ℕ) → Type 0 =
    λ w t. Noted (sheet_line (g.S.Stream.meaning b.cipher.stream) b.cipher.strength) b.table.slots c.open_line.new.self.table.slots (opening c.args.self.line.now (kind_of g.K.Kind.NUMBER g.K.Kind.reading) w t ∷ []) in
    let room : length c.new-tray.result.items.now ≡ vec_len c.args.self.places = ap length c.new-tray.ensures.items ∙ c.deref_mut.ensures.len in
    let work = subst (λ w. N w (length c.new-tray.result.items.now)) c.deref_mut-2.ensures.len opened.noted in
    record { kept = opened.kept; noted = subst (N (vec_len c.args.self.work)) room work }
