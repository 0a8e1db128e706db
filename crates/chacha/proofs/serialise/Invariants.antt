use Rattle.std.proofs.Common.{◌≡◌, ◌*◌, ◌++◌, take, drop}
use Rattle.chacha.specs.ChaCha.{serialised}
use Rattle.chacha.proofs.serialise.Given as goal

abbrev pub invariant-loop-j : goal.invariant-loop-j
invariant-loop-j l = l.out ≡ serialised (take l.j l.s) ++ drop (4 * l.j) l.initial.out
