use Rattle.std.proofs.Common.{◌≡◌, ℕ, List, length, is_ok, subst, rules}
use Rattle.hs1.specs.Calls.{OpenedThere}
use Rattle.hs1.specs.Seal.{opened}
use Rattle.sheet.specs.Sheet.{nonce_of}
use Rattle.keybox.proofs.Opened.{unmasked}
use Rattle.keybox.proofs.unmask.Goals as goal

pub returns : goal.returns
returns g c =
    let f = g.S.Stream.meaning c.args.cipher.now.stream in
    let s = c.args.cipher.now.strength in
    let header = c.args.header.now in
    let siv = c.args.siv.now in
    let text = c.args.text.now in
    let key = c.as_bytes.result.now in
    let need = c.requires in
    let twelve : length c.nonce.result ≡ 12 = search rules in
    let u = unmasked f (g.met.S.Stream.byted c.args.cipher.now.stream) s key c.nonce.result header siv text c.open_in_place.new.buf c.open_in_place.result c.as_bytes.ensures.some c.as_bytes.ensures.few twelve need.0 need.2 need.1 c.open_in_place.ensures in
    let There : List ℕ → List ℕ → Type 0 = λ k n. OpenedThere (opened f s k n header siv text) (length text) c.open_in_place.new.buf (is_ok c.open_in_place.result) in
    record {
      there = subst (λ k. There k (nonce_of c.args.serial)) c.as_bytes.ensures.value (subst (There key) c.nonce.ensures u.0);
      why = u.1;
    }
