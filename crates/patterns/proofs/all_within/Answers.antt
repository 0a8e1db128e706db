use Rattle.std.proofs.Common.{sym, ◌∙◌, rules}
use borrow.Author.Tests.{tests}
use Rattle.std.proofs.lemmas.Bool.{ne_eqb}
use Rattle.std.proofs.lemmas.Iterator.{cases_from_all, YieldsList-from_slice, YieldsList-from_zip}
use Rattle.patterns.proofs.Spell.{Held, Missed, tested, other_count}
use Rattle.patterns.proofs.all_within.Goals as goal

pub returns-then-ranges-values : goal.returns-then-ranges-values
returns-then-ranges-values c =
    let zipped = YieldsList-from_zip {s = c.zip.result} (YieldsList-from_slice c.args.ranges.now cc) (YieldsList-from_slice c.args.values.now cc) in
    tested c.args.ranges.now c.args.values.now c.all.result c.if-ranges-values.true (cases_from_all c.all.new.self _ _ Held Missed c.all.ensures.ran zipped (λ x q k. search (rules, tests)) (λ x q k. search (rules, tests)))

pub returns-else-ranges-values : goal.returns-else-ranges-values
returns-else-ranges-values c = ne_eqb _ _ c.if-ranges-values.false ∙ sym (other_count c.args.ranges.now c.args.values.now c.if-ranges-values.false)
