use Rattle.std.proofs.Common.{rules}
use Rattle.shape.proofs.Signs.{in_range_kept}
use Rattle.patterns.proofs.Found.{next_tested}
use Rattle.patterns.proofs.next_value.Goals as goal

pub returns : goal.returns
returns c = next_tested c.args.range.now c.args.line.now _ _ _ c.leading_number.ensures (λ x b i q. search (rules, in_range_kept x.value i)) c.filter.ensures
