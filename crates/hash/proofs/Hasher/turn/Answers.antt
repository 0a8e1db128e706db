use Rattle.std.proofs.Common.{◌≡◌, length, arith, rules}
use Rattle.hash.proofs.Turns.{turned_below}
use Rattle.hash.proofs.Hasher.turn.Goals as goal

pub invariant_of-self : goal.invariant_of-self
invariant_of-self c =
    let t = c.hashes-t.result in
    let s = c.args.self.now in
    let n : length c.loop-i.h-items ≡ t = search rules in
    let i : c.loop-i.i ≡ t = omega arith in
    record { below = turned_below s.keys.now _ t s.running c.loop-i.h-items n (rw i at c.loop-i.invariant) s.below }
