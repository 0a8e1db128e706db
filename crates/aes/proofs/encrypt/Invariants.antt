use Rattle.std.proofs.Common.{◌≡◌, length}
use Rattle.aes.specs.Aes.{full_rounds}
use Rattle.aes.proofs.encrypt.Given as goal

abbrev pub invariant-loop-round_key : goal.invariant-loop-round_key
invariant-loop-round_key l = (length l.s ≡ 16) × (l.s ≡ full_rounds l.expanded l.round_key-index l.block)
