use Rattle.hs1.proofs.Keys.{bytes_are}
use Rattle.hs1.proofs.Cipher.subkey_stream.Goals as goal

pub returns : goal.returns
returns g c =
    bytes_are (g.S.Stream.meaning c.args.self.now.stream) c.args.self.now.strength c.args.key.now _ _ _ _ _ c.repeat_key-seed.ensures c.make_nonce-nonce.ensures c.rounds.ensures c.subkey_len.ensures c.mask.ensures
