use Rattle.std.proofs.Common.{◌≡◌, ℕ, Bool, cond, ◌&&◌, List, length, Err, sym, ap, ◌∙◌}
use Rattle.std.proofs.lemmas.Result.{err_from_is_err_and}
use Rattle.sealed.specs.Line.{Parts, Lawful, sealed_line}
use Rattle.sealed.specs.Sheet.{parts_of}
use Rattle.sealed.proofs.Pieces.{one_reading}
use Rattle.book.specs.Book.{hits}
use Rattle.book.specs.declared.Slot.{Slot}
use Rattle.book.specs.Keys.{slot_at, with_last}
use Rattle.keybox.specs.Opening.{SlotsAfter}
use Rattle.keybox.proofs.Boxed.{unread_noted, unread_law}
use Rattle.keybox.proofs.KeyBox.open_line.Goals as goal

-- a line has no other parts than those that were read
slots_after : (l : List ℕ) (before after : List Slot) (ok : Bool) (p : Parts) → Lawful p → l ≡ sealed_line p → ((s : ℕ) → slot_at after s ≡ cond (ok && hits p.slot s) (with_last (slot_at before p.slot) p.serial) (slot_at before s)) → SlotsAfter l before after ok
slots_after l before after ok p good is there =
    let S : Parts → Bool → ℕ → Slot = λ q b s. cond (b && hits q.slot s) (with_last (slot_at before q.slot) q.serial) (slot_at before s) in
    record {
      refused = λ f s. there s ∙ ap (λ b. S p b s) f;
      granted = λ q lawful-q is-q s. there s ∙ ap (λ x. S x ok s) (one_reading p q good lawful-q (sym is ∙ is-q));
    }

pub returns-clause-slots : goal.returns-clause-slots
returns-clause-slots g c =
    let r = c.in_ok-sheet.ensures.reads in
    slots_after c.args.line.now _ _ _ (parts_of c.in_ok-sheet.sheet) r.lawful r.line c.open.ensures.slots

pub returns-clause-noted : goal.returns-clause-noted
returns-clause-noted g c = rw c.in_ok-sheet.ensures.reads.line c.open.ensures.noted

pub returns-in_err-sheet-clause-noted : goal.returns-in_err-sheet-clause-noted
returns-in_err-sheet-clause-noted g c =
    let b = c.args.self.now in
    unread_noted (g.S.Stream.meaning b.cipher.stream) (g.met.S.Stream.byted b.cipher.stream) b.cipher.strength g.K.Kind.lawful g.K.Kind.line g.K.Kind.NUMBER g.K.Kind.reading g.met.K.Kind.numbered g.met.K.Kind.shaped g.met.K.Kind.found g.met.K.Kind.sound b.table.slots c.args.line.now (length c.args.work.now) c.args.tray.now.items.now c.in_err-sheet.ensures.reads.0

pub returns-in_err-sheet-clause-law : goal.returns-in_err-sheet-clause-law
returns-in_err-sheet-clause-law g c =
    let b = c.args.self.now in
    let r = err_from_is_err_and c.from_residual.result c.from_residual.ensures.1 in
    rw (r.1 ∙ ap Err r.2) (unread_law (g.S.Stream.meaning b.cipher.stream) (g.met.S.Stream.byted b.cipher.stream) b.cipher.strength g.K.Kind.lawful g.K.Kind.line g.K.Kind.NUMBER g.K.Kind.reading g.met.K.Kind.numbered g.met.K.Kind.shaped g.met.K.Kind.found g.met.K.Kind.sound b.table.slots c.args.line.now (length c.args.work.now) c.args.tray.now.items.now c.in_err-sheet.ensures.reads.0 _ _)
