use Rattle.std.proofs.Common.{length}
use Rattle.hash.specs.Hasher.{Passes}
use Rattle.hash.proofs.Hasher.absorb.Given as goal

abbrev pub invariant-loop-rest : goal.invariant-loop-rest
invariant-loop-rest l = Passes l.initial.self l.part l.rest l.self

abbrev pub decreases-loop-rest : goal.decreases-loop-rest
decreases-loop-rest l = length l.rest
