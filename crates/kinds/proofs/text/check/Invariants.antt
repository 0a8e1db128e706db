use Rattle.std.proofs.Common.{◌≡◌, ◌≤◌, length, drop}
use Rattle.kinds.specs.Text.{lines}
use Rattle.kinds.proofs.Along.{Along}
use Rattle.kinds.proofs.text.check.Given as goal

abbrev pub invariant-loop-count : goal.invariant-loop-count
invariant-loop-count g l =
    (lines l.lines.rest.now ≡ drop l.count (lines l.text))
    × (l.count ≤ length (lines l.text))
    × Along g.K.Kind.reading l.text l.count
