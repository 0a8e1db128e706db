use Rattle.std.proofs.Common.{◌≡◌, ℕ, cond, length, Ok, Err, ap, ◌∙◌, refl, rules}
use Rattle.std.proofs.lemmas.Result.{err_from_is_err_and}
use Rattle.sealed.specs.Sheet.{parts_of}
use Rattle.sealed.proofs.Sheets.{sheet_lawful}
use Rattle.book.specs.Keys.{slot_at, with_last}
use Rattle.book.specs.Book.{hits}
use Rattle.keybox.specs.Opening.{first_checks, sheet_text, Answered}
use Rattle.keybox.proofs.Boxed.{refused_noted, refused_law, granted_noted, granted_law}
use Rattle.keybox.proofs.KeyBox.open.Goals as goal

pub returns-in_err-count-clause-noted : goal.returns-in_err-count-clause-noted
returns-in_err-count-clause-noted g c =
    let b = c.args.self.now in
    let f = g.S.Stream.meaning b.cipher.stream in
    let p = parts_of c.args.sheet in
    let held = slot_at b.table.slots p.slot in
    let answered : Answered (first_checks b.cipher.strength held g.K.Kind.NUMBER (length c.args.work.now) p) (sheet_text f b.cipher.strength held p) g.K.Kind.reading c.args.tray.now.items.now c.judge.new.tray.items.now (Err c.in_err-count.field-0.0) = search rules in
    refused_noted f (g.met.S.Stream.byted b.cipher.stream) b.cipher.strength g.K.Kind.lawful g.K.Kind.line g.K.Kind.NUMBER g.K.Kind.reading g.met.K.Kind.numbered g.met.K.Kind.shaped g.met.K.Kind.found g.met.K.Kind.sound b.table.slots _ (length c.args.work.now) c.args.tray.now.items.now p (sheet_lawful c.args.sheet) refl _ c.in_err-count.field-0.0 answered

pub returns-in_err-count-clause-law : goal.returns-in_err-count-clause-law
returns-in_err-count-clause-law g c =
    let b = c.args.self.now in
    let f = g.S.Stream.meaning b.cipher.stream in
    let p = parts_of c.args.sheet in
    let held = slot_at b.table.slots p.slot in
    let answered : Answered (first_checks b.cipher.strength held g.K.Kind.NUMBER (length c.args.work.now) p) (sheet_text f b.cipher.strength held p) g.K.Kind.reading c.args.tray.now.items.now c.judge.new.tray.items.now (Err c.in_err-count.field-0.0) = search rules in
    let r = err_from_is_err_and c.from_residual.result c.from_residual.ensures.1 in
    rw (r.1 ∙ ap Err r.2) (refused_law f (g.met.S.Stream.byted b.cipher.stream) b.cipher.strength g.K.Kind.lawful g.K.Kind.line g.K.Kind.NUMBER g.K.Kind.reading g.met.K.Kind.numbered g.met.K.Kind.shaped g.met.K.Kind.found g.met.K.Kind.sound b.table.slots _ (length c.args.work.now) c.args.tray.now.items.now p (sheet_lawful c.args.sheet) refl _ c.in_err-count.field-0.0 answered)

pub returns-clause-noted : goal.returns-clause-noted
returns-clause-noted g c =
    let b = c.args.self.now in
    let f = g.S.Stream.meaning b.cipher.stream in
    let p = parts_of c.args.sheet in
    let held = slot_at b.table.slots p.slot in
    let answered : Answered (first_checks b.cipher.strength held g.K.Kind.NUMBER (length c.args.work.now) p) (sheet_text f b.cipher.strength held p) g.K.Kind.reading c.args.tray.now.items.now c.judge.new.tray.items.now (Ok c.in_ok-count.count) = search rules in
    let there : (t : ℕ) → slot_at c.put.new.self.slots t ≡ cond (hits p.slot t) (with_last held p.serial) (slot_at b.table.slots t) = search rules in
    granted_noted f (g.met.S.Stream.byted b.cipher.stream) b.cipher.strength g.K.Kind.lawful g.K.Kind.line g.K.Kind.NUMBER g.K.Kind.reading g.met.K.Kind.numbered g.met.K.Kind.shaped g.met.K.Kind.found g.met.K.Kind.sound b.table.slots _ (length c.args.work.now) c.args.tray.now.items.now p (sheet_lawful c.args.sheet) refl _ c.in_ok-count.count answered c.put.new.self.slots there

pub returns-clause-law : goal.returns-clause-law
returns-clause-law g c =
    let b = c.args.self.now in
    let f = g.S.Stream.meaning b.cipher.stream in
    let p = parts_of c.args.sheet in
    let held = slot_at b.table.slots p.slot in
    let answered : Answered (first_checks b.cipher.strength held g.K.Kind.NUMBER (length c.args.work.now) p) (sheet_text f b.cipher.strength held p) g.K.Kind.reading c.args.tray.now.items.now c.judge.new.tray.items.now (Ok c.in_ok-count.count) = search rules in
    granted_law f (g.met.S.Stream.byted b.cipher.stream) b.cipher.strength g.K.Kind.lawful g.K.Kind.line g.K.Kind.NUMBER g.K.Kind.reading g.met.K.Kind.numbered g.met.K.Kind.shaped g.met.K.Kind.found g.met.K.Kind.sound b.table.slots _ (length c.args.work.now) c.args.tray.now.items.now p (sheet_lawful c.args.sheet) refl _ c.in_ok-count.count answered
