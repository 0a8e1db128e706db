use Rattle.std.proofs.Common.{refl, arith}
use Rattle.shape.proofs.Figures.{length_some, next_place}
use Rattle.shape.proofs.value.write_figures.Goals as goal

pub loop-place-init : goal.loop-place-init
loop-place-init c =
    (omega arith, c.if-out-count.false, (λ h. (c.figure_count-count.ensures, refl)), λ e. absurd (omega (arith, e, c.figure_count-count.ensures, length_some c.args.n (omega arith))))

pub loop-place-preserved : goal.loop-place-preserved
loop-place-preserved c = next_place _ c.loop-place.out c.loop-place.rest c.loop-place.place c.loop-place-test.true c.loop-place.invariant

pub returns : goal.returns
returns c = (c.figure_count-count.ensures, c.if-out-count.false, c.loop-place.invariant.3 (omega arith))
