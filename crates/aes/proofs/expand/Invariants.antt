use Rattle.std.proofs.Common.{◌≡◌, ℕ, ◌+◌, ◌*◌, length, take}
use Rattle.aes.specs.Aes.{grown}
use Rattle.aes.proofs.expand.Given as goal

abbrev pub invariant-loop-i : goal.invariant-loop-i
invariant-loop-i l = (length l.w ≡ 240) × ((n : ℕ) → n + 8 ≡ l.i-counter → take (4 * l.i-counter) l.w ≡ grown l.key n)
