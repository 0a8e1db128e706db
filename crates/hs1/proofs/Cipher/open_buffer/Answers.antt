use Rattle.std.proofs.Common.{ℕ, List, length, replicate, cond, Some, None, sym, ap, ◌∙◌, rules}
use Rattle.hs1.specs.Checks.{wrong_siv, answer, cleared}
use Rattle.hs1.specs.Derived.{Derived}
use Rattle.hs1.proofs.Sealing.{compared, length_under}
use Rattle.hs1.proofs.Cipher.open_buffer.Goals as goal

pub returns-then-not-same_bytes : goal.returns-then-not-same_bytes
returns-then-not-same_bytes g c =
    let f = g.S.Stream.meaning c.args.self.now.stream in
    let s = c.args.self.now.strength in
    let nonce = c.args.ready.now.nonce in
    let header = c.args.header.now in
    let iv = c.args.iv.now in
    let cipher = c.args.buf.now in
    let text = c.mask_text.new.text in
    let wrong =
    λ (key : List ℕ) (d : Derived f s key c.args.ready.now). sym (compared f s key nonce header iv cipher text _ _ _ (c.mask_text.ensures key d) (c.siv_bytes-again.ensures key d) c.siv_len.ensures c.same_bytes.ensures ∙ ap (λ b. cond b (Some text) None) c.if-not-same_bytes.true)
    in
    record {
      answer = λ key d. ap (λ o. answer (wrong_siv o)) (wrong key d);
      after = λ key d. c.fill.ensures.after (λ y e. search rules) ∙ ap (λ n. replicate n 0) (ap length (c.mask_text.ensures key d) ∙ length_under f s key nonce iv cipher) ∙ ap (cleared (length cipher)) (wrong key d);
    }

pub returns : goal.returns
returns g c =
    let f = g.S.Stream.meaning c.args.self.now.stream in
    let s = c.args.self.now.strength in
    let nonce = c.args.ready.now.nonce in
    let header = c.args.header.now in
    let iv = c.args.iv.now in
    let cipher = c.args.buf.now in
    let text = c.mask_text.new.text in
    let right =
    λ (key : List ℕ) (d : Derived f s key c.args.ready.now). sym (compared f s key nonce header iv cipher text _ _ _ (c.mask_text.ensures key d) (c.siv_bytes-again.ensures key d) c.siv_len.ensures c.same_bytes.ensures ∙ ap (λ b. cond b (Some text) None) c.if-not-same_bytes.false)
    in
    record {
      answer = λ key d. ap (λ o. answer (wrong_siv o)) (right key d);
      after = λ key d. ap (cleared (length cipher)) (right key d);
    }
