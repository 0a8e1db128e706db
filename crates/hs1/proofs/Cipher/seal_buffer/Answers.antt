use Rattle.hs1.proofs.Sealing.{sealed_text}
use Rattle.hs1.proofs.Cipher.seal_buffer.Goals as goal

pub returns-clause-text : goal.returns-clause-text
returns-clause-text g c key d =
    let f = g.S.Stream.meaning c.args.self.now.stream in
    let s = c.args.self.now.strength in
    sealed_text f s key c.args.ready.now.nonce c.args.header.now _ _ _ _ (c.siv_bytes-iv.ensures key d) c.siv_len.ensures (c.mask_text.ensures key d)
