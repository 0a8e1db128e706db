use Rattle.std.proofs.Common.{◌≤◌}
use Rattle.columns.proofs.append_word.Given as goal

abbrev pub invariant-loop : goal.invariant-loop
invariant-loop l = l.end ≤ l.bytes.len
