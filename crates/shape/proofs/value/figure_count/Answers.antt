use Rattle.std.proofs.Common.{arith, rules}
use Rattle.shape.proofs.Figures.{length_one, count_by_log}
use Rattle.shape.proofs.value.figure_count.Goals as goal

pub returns : goal.returns
returns c =
    let none = length_one 0 (omega arith) in
    search (rules, count_by_log, none)
