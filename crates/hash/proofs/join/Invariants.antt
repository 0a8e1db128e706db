use Rattle.std.proofs.Common.{◌≡◌, ◌-◌, ◌*◌, ◌++◌, get_or, replicate}
use Rattle.hash.specs.Hash.{results, result_width}
use Rattle.hash.proofs.join.Given as goal

abbrev pub invariant-loop-i : goal.invariant-loop-i
invariant-loop-i l =
    l.out ≡ results l.strength l.k (λ i. get_or l.h i 0) l.i ++ replicate (32 - result_width l.strength * l.i) 0
