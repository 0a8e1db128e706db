use Rattle.std.proofs.Common.{◌≡◌, ℕ, List, length, None, subst, rules}
use Rattle.sealed.specs.Writes.{Writes, room_refusal}
use Rattle.sheet.specs.Sheet.{sheet_line}
use Rattle.sheet.proofs.Sealed.{never_refused, header_there, line_written}
use Rattle.sheet.proofs.sealing.seal_text.Goals as goal

pub returns-in_err-len : goal.returns-in_err-len
returns-in_err-len g c =
    absurd (never_refused c.args.label.slot c.args.label.kind c.args.label.serial c.requires.0 _ _ c.write_header.ensures _ c.in_err-len.was)

pub returns : goal.returns
returns g c =
    let f = g.S.Stream.meaning c.args.cipher.now.stream in
    let byted = g.met.S.Stream.byted c.args.cipher.now.stream in
    let s = c.args.cipher.now.strength in
    let key = c.as_bytes.result.now in
    let k0 = c.as_bytes.ensures.some in
    let k = c.as_bytes.ensures.few in
    let twelve : length c.nonce-nonce.result ≡ 12 = search rules in
    let header_is = header_there c.args.label.slot c.args.label.kind c.args.label.serial c.requires.0 _ _ c.write_header.ensures _ c.in_ok-len.was in
    let w = line_written f byted s c.args.label.slot c.args.label.kind c.args.label.serial c.requires.0 key c.args.text.now k0 k c.requires.1 c.nonce-nonce.result _ _ _ _ _ c.nonce-nonce.ensures header_is twelve c.seal_in_place.ensures _ _ _ _ c.siv_len.ensures c.write_line.ensures in
    let P : List ℕ → Type 0 = λ x. Writes (room_refusal None (length (sheet_line f s c.args.label.slot c.args.label.kind c.args.label.serial x c.args.text.now)) (length c.args.out.now)) (sheet_line f s c.args.label.slot c.args.label.kind c.args.label.serial x c.args.text.now) c.args.out.now c.write_line.new.out c.write_line.result in
    subst P c.as_bytes.ensures.value w
