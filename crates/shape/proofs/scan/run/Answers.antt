use Rattle.std.proofs.Common.{nat_le, ◌&&◌, rules, tests}
use Rattle.std.proofs.lemmas.Iterator.{YieldsList-from_slice, YieldsList-from_take}
use Rattle.std.proofs.lemmas.Iterator.Consumers.{count_from_yields_List}
use Rattle.std.proofs.lemmas.Iterator.Search.{YieldsList-from_take_while}
use Rattle.shape.proofs.Runs.{runs_to}
use Rattle.shape.proofs.scan.run.Goals as goal

pub returns : goal.returns
returns c =
    runs_to c.args.low c.args.high c.args.most c.args.s.now _ (count_from_yields_List _ _ c.count.ensures.ran
    (YieldsList-from_take_while _ (λ b. nat_le c.args.low b && nat_le b c.args.high) (YieldsList-from_take c.args.most (YieldsList-from_slice c.args.s.now cc) cc) c.take_while.ensures.closure c.take_while.ensures.done (λ x b q k. search (rules, tests))))
