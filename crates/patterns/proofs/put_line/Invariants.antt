use Rattle.kinds.proofs.Overwrite.{Over}
use Rattle.std.proofs.Common.{drop}
use Rattle.patterns.specs.Pattern.{spelt, AllInRange}
use Rattle.patterns.proofs.put_line.Given as goal

abbrev pub invariant-loop-b : goal.invariant-loop-b
invariant-loop-b l = Over (spelt l.text l.fn.values) l.initial.out l.out l.at (spelt (drop l.b-index l.text) l.values.rest.now) × AllInRange l.values.rest.now
