use Rattle.std.proofs.Common.{◌≡◌}
use Rattle.chacha.specs.ChaCha.{double_rounds}
use Rattle.chacha.proofs.permute.Given as goal

abbrev pub invariant-loop-i : goal.invariant-loop-i
invariant-loop-i l = l.s ≡ double_rounds l._i l.start
