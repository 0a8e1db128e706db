use Rattle.std.proofs.Common.{◌≡◌, length, is_ok, Err, ap, ◌∙◌, sym, refl, arith}
use Rattle.std.proofs.lemmas.Result.{err_from_is_err_and}
use Rattle.refusal.specs.declared.Refusal.TheVariants.{WrongSiv}
use Rattle.sealed.specs.Sheet.{parts_of}
use Rattle.sealed.proofs.Sheets.{sheet_lawful, siv_held}
use Rattle.keybox.proofs.Judged.{passes, wrong, filled, not_opened, is_opened, text_there, text_is, header_few, text_few}
use Rattle.keybox.proofs.judge.Goals as goal

pub unmask-requires : goal.unmask-requires
unmask-requires g c =
    let p = parts_of c.args.sheet in
    let a = c.into_parts.ensures in
    let d = c.in_ok-n.ensures in (
      header_few p _ (sheet_lawful c.args.sheet) a.head,
      c.if-siv-siv_len.false ∙ c.siv_len.ensures,
      text_few p _ (sheet_lawful c.args.sheet) (text_there _ c.args.work.now _ _ d.0 d.2 ∙ a.text),
    )

pub returns-in_err-unmask-clause-answer : goal.returns-in_err-unmask-clause-answer
returns-in_err-unmask-clause-answer g c =
    let p = parts_of c.args.sheet in
    let a = c.into_parts.ensures in
    let d = c.in_ok-n.ensures in
    let siv-is : c.as_bytes-siv.result.now ≡ p.siv = c.as_bytes-siv.ensures ∙ siv_held p.siv c.into_parts.result.siv a.siv in
    let none = passes c.args.cipher.now.strength c.args.slot g.K.Kind.NUMBER (length c.args.work.now) p (sym c.kind.ensures ∙ c.if-kind-NUMBER.false ∙ c.NUMBER.ensures) c.in_ok-key.key c.in_ok-key.ensures.ok_part (omega (arith, c.serial-serial.ensures)) (sym (ap length siv-is) ∙ c.if-siv-siv_len.false ∙ c.siv_len.ensures) (omega (arith, d.0, d.1, ap length a.text)) in
    let text-is = text_is (g.S.Stream.meaning c.args.cipher.now.stream) c.args.cipher.now.strength c.args.slot c.in_ok-key.key p c.serial-serial.result _ _ _ c.in_ok-key.ensures.ok_part c.serial-serial.ensures a.head siv-is (text_there _ c.args.work.now _ _ d.0 d.2 ∙ a.text) in
    let r = err_from_is_err_and c.from_residual-in_err-unmask.result c.from_residual-in_err-unmask.ensures.1 in
    let is-wrong : c.from_residual-in_err-unmask.result ≡ Err WrongSiv = r.1 ∙ ap Err (r.2 ∙ c.in_err-unmask.ensures.why) in
    rw is-wrong (wrong _ _ _ _ _ none (text-is ∙ not_opened _ _ _ _ c.unmask.ensures.there (ap is_ok c.in_err-unmask.was)) refl)

pub returns-clause-answer : goal.returns-clause-answer
returns-clause-answer g c =
    let p = parts_of c.args.sheet in
    let a = c.into_parts.ensures in
    let d = c.in_ok-n.ensures in
    let siv-is : c.as_bytes-siv.result.now ≡ p.siv = c.as_bytes-siv.ensures ∙ siv_held p.siv c.into_parts.result.siv a.siv in
    let none = passes c.args.cipher.now.strength c.args.slot g.K.Kind.NUMBER (length c.args.work.now) p (sym c.kind.ensures ∙ c.if-kind-NUMBER.false ∙ c.NUMBER.ensures) c.in_ok-key.key c.in_ok-key.ensures.ok_part (omega (arith, c.serial-serial.ensures)) (sym (ap length siv-is) ∙ c.if-siv-siv_len.false ∙ c.siv_len.ensures) (omega (arith, d.0, d.1, ap length a.text)) in
    let text-is = text_is (g.S.Stream.meaning c.args.cipher.now.stream) c.args.cipher.now.strength c.args.slot c.in_ok-key.key p c.serial-serial.result _ _ _ c.in_ok-key.ensures.ok_part c.serial-serial.ensures a.head siv-is (text_there _ c.args.work.now _ _ d.0 d.2 ∙ a.text) in
    let opened = is_opened _ _ _ _ c.unmask.ensures.there (ap is_ok c.in_ok-unmask.was) in
    filled _ _ _ _ _ _ _ none (text-is ∙ opened) c.load.ensures.0
