use Rattle.std.proofs.Common.{ap, ◌∙◌, eqb, rules, arith}
use Rattle.std.proofs.lemmas.Iterator.{YieldsList-from_slice, YieldsList-from_zip}
use Rattle.std.proofs.lemmas.Iterator.Consumers.{fold_from_yields_List}
use Rattle.hs1.proofs.Strings.{looked_at, looked_all}
use Rattle.hs1.proofs.same_bytes.Goals as goal

pub returns : goal.returns
returns c =
    let a = c.args.a.now in
    let b = c.args.b.now in
    ap (λ d. eqb d 0) (fold_from_yields_List _ looked_at 0 c.fold.result c.fold.ensures.ran (YieldsList-from_zip (YieldsList-from_slice a (cc)) (YieldsList-from_slice b (cc))) (λ d x r q k. search rules))
    ∙ looked_all a b 0 (omega arith)
