use Rattle.std.proofs.Common.{◌≡◌, ℕ, true, false, List, length, take, Some, None, Option, MatchOption, subst, arith}
use Rattle.sealed.specs.Writes.{Writes, room_refusal}
use Rattle.book.specs.Book.{good_key}
use Rattle.book.specs.Keys.{bytes_of}
use Rattle.book.specs.declared.key.Key.{Key}
use Rattle.sheet.specs.Sheet.{sheet_line}
use Rattle.sheet.proofs.Answered.{checks_pass, sealed_from}
use Rattle.sheet.proofs.Sealed.{front}
use Rattle.sheet.proofs.sealing.seal_items.Goals as goal

pub returns : goal.returns
returns g c =
    let f = g.S.Stream.meaning c.args.cipher.now.stream in
    let s = c.args.cipher.now.strength in
    let key_bytes = c.args.to.key.now in
    let O : Option Key → Type 0 = λ o. MatchOption o (good_key key_bytes ≡ false) (λ k. (good_key key_bytes ≡ true) × (bytes_of k ≡ key_bytes)) in
    let key = subst O {y = Some c.in_ok-key.key} c.in_ok-key.ensures.ok_part c.new.ensures in
    let t = c.in_ok-len.ensures in
    let W : ℕ → List ℕ → List ℕ → Type 0 = λ kind k text. Writes (room_refusal None (length (sheet_line f s c.args.to.slot kind c.args.serial k text)) (length c.args.out.now)) (sheet_line f s c.args.to.slot kind c.args.serial k text) c.args.out.now c.seal_text.new.out c.seal_text.result in
    let T = take c.in_ok-len.len c.write_work.new.work in
    let at_kind = subst (λ kind. W kind (bytes_of c.in_ok-key.key) T) c.NUMBER.ensures c.seal_text.ensures in
    let at_key = subst (λ k. W g.K.Kind.NUMBER k T) key.1 at_kind in
    let at_text = subst (λ text. W g.K.Kind.NUMBER key_bytes text) (front _ _ _ _ t.1 t.3) at_key in
    sealed_from g.K.Kind.lawful g.K.Kind.line c.args.items.now _ (length c.args.work.now) _ _ _ _
    (checks_pass c.args.to.slot key_bytes (omega arith) key.0)
    t.0 (omega (arith, t.1, t.2)) at_text
