use Rattle.std.proofs.Common.{◌≤◌}
use Rattle.columns.proofs.run.Given as goal

abbrev pub invariant-loop-line : goal.invariant-loop-line
invariant-loop-line g l = l.tally.agree ≤ l.tally.all
