use Rattle.std.proofs.Common.{length, sym, subst, arith}
use Rattle.patterns.specs.Pattern.{spelt, FitsRoom}
use Rattle.patterns.proofs.Spell.{in_ranges_all}
use Rattle.patterns.proofs.Pattern.write.Goals as goal

pub measured-requires : goal.measured-requires
measured-requires c = (in_ranges_all _ _ (sym c.if-not-all_within.ensures)).0

pub put_line-requires : goal.put_line-requires
put_line-requires c =
    let m = subst (λ o. FitsRoom (spelt c.args.self.now.text.now c.args.values.now) (length c.args.out.now) o) c.in_ok-len.ensures.ok_part c.measured.ensures in
    ((in_ranges_all _ _ (sym c.if-not-all_within.ensures)).0, omega (arith, m))
