use Rattle.std.proofs.Common.{ℕ, ◌==◌, rules, tests}
use Rattle.std.proofs.lemmas.Iterator.{YieldsList-from_slice, YieldsList-from_zip}
use Rattle.std.proofs.lemmas.Iterator.Consumers.{count_from_yields_List}
use Rattle.std.proofs.lemmas.Iterator.Search.{YieldsList-from_take_while}
use Rattle.shape.proofs.Runs.{shares_to}
use Rattle.shape.proofs.scan.shared.Goals as goal

pub returns : goal.returns
returns c =
    shares_to c.args.s.now c.args.text.now _ (count_from_yields_List _ _ c.count.ensures.ran
    (YieldsList-from_take_while _ (λ (q : ℕ × ℕ). q.0 == q.1) (YieldsList-from_zip (YieldsList-from_slice c.args.s.now cc) (YieldsList-from_slice c.args.text.now cc)) c.take_while.ensures.closure c.take_while.ensures.done (λ x b q k. search (rules, tests))))
