use Rattle.hs1.proofs.Keys.{derived}
use Rattle.hs1.proofs.Cipher.ready.Goals as goal

pub returns-clause-derived : goal.returns-clause-derived
returns-clause-derived g c =
    let front = rw c.unwrap.ensures at c.first_chunk.ensures.cases in
    derived (g.S.Stream.meaning c.args.self.now.stream) c.args.self.now.strength c.args.key.now _ _ _ _ _ c.subkey_stream-bytes.ensures front.same c.read.ensures
