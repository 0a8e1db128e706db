use Rattle.hs1.proofs.Sealing.{seed_from, siv_from}
use Rattle.hs1.proofs.Cipher.siv_bytes.Goals as goal

pub returns : goal.returns
returns g c key d =
    let f = g.S.Stream.meaning c.args.self.now.stream in
    let s = c.args.self.now.strength in
    let ready = c.args.ready.now in
    siv_from f s key ready.nonce c.args.header.now c.args.text.now _ _ (seed_from f s key ready _ _ _ d c.hash_message.ensures c.seed-seed.ensures) c.mask.ensures
