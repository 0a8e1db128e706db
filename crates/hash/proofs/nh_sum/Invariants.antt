use Rattle.std.proofs.Common.{◌≡◌, ◌%◌, ◌^◌, length}
use Rattle.hash.specs.Nh.{groups}
use Rattle.hash.proofs.nh_sum.Given as goal

abbrev pub invariant-loop-k : goal.invariant-loop-k
invariant-loop-k l = l.sum ≡ groups l.fn.k l.fn.m (length l.yielded) % 2 ^ 64
