use Rattle.std.proofs.Common.{◌+◌, ◌%◌, ◌^◌}
use Rattle.hash.specs.Nh.{nh}
use Rattle.hash.specs.Running.{nh_part}
use Rattle.hash.proofs.Turns.{Turned}
use Rattle.hash.proofs.Hasher.turn.Given as goal

abbrev pub invariant-loop-i : goal.invariant-loop-i
invariant-loop-i l =
    Turned l.keys (λ k. nh (nh_part l.keys k) l.words % 2 ^ 60 + l.odd) l.i l.initial.h-items l.h-items
