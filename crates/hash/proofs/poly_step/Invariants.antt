use Rattle.std.proofs.Common.{◌≡◌, ◌+◌, ◌*◌, ◌/◌, ◌%◌, ◌^◌, ◌<◌, ◌≤◌}
use Rattle.hash.specs.Hash.{prime}
use Rattle.hash.proofs.poly_step.Given as goal

abbrev pub invariant-loop-i : goal.invariant-loop-i
invariant-loop-i l =
    ((l.low + 2 ^ 32 * l.high + l.power * l.digits) % prime ≡ (l.a + l.h * (l.k % 2 ^ 60)) % prime)
    × (l.digits ≡ (l.k % 2 ^ 60) / 8 ^ l._i)
    × (l.power < 2 ^ 61)
    × (l.low ≤ l.a + 4294967295 * l._i)
    × (l.high ≤ 4294967295 * l._i)
