use Rattle.hs1.proofs.Sealing.{seed_from, under_from}
use Rattle.hs1.proofs.Cipher.mask_text.Goals as goal

pub returns : goal.returns
returns g c key d =
    let f = g.S.Stream.meaning c.args.self.now.stream in
    let s = c.args.self.now.strength in
    let ready = c.args.ready.now in
    under_from f s key ready.nonce c.args.iv.now _ c.args.text.now _ (seed_from f s key ready _ _ _ d c.hash.ensures c.seed-seed.ensures) c.mask.ensures
