use Rattle.std.proofs.Common.{◌≡◌, length, arith}
use Rattle.std.proofs.lemmas.List.{nil_from_length}
use Rattle.std.proofs.lemmas.Bool.Decides.{nat_tests}
use Rattle.hash.proofs.Blocks.{pass_all}
use Rattle.hash.proofs.Hasher.absorb.Goals as goal

pub returns : goal.returns
returns c =
    let n : length c.loop-rest.rest.now ≡ 0 = grind (arith, nat_tests) in
    let z = nil_from_length c.loop-rest.rest.now n in
    pass_all c.args.self.now c.loop-rest.self c.args.part.now _ z c.loop-rest.invariant
