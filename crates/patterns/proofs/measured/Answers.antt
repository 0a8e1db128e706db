use Rattle.std.proofs.Common.{length, sym, subst, ap, ◌∙◌, arith}
use Rattle.patterns.specs.Pattern.{spelt, AllInRange}
use Rattle.patterns.proofs.Spell.{Piece, piece_number, piece_byte, measured_more, measured_short, measured_all, took, took_in_range}
use Rattle.patterns.proofs.measured.Goals as goal
use Rattle.patterns.proofs.measured.Goals.{Joined-b-eq35, then-b-eq35, else-b-eq35}

pub loop-b-init : goal.loop-b-init
loop-b-init c = let e = c.iter-values.ensures.rest in record { fits = omega arith; in_range = subst (λ l. AllInRange l) (sym e) c.requires; whole = omega (arith, ap (λ l. length (spelt c.args.text.now l)) e) }

pub digits_len-size-requires : goal.digits_len-size-requires
digits_len-size-requires c = (took_in_range _ _ _ _ c.copied.ensures c.next.ensures.steps c.loop-b.invariant.in_range).0

pub overflow_sub-room : goal.overflow_sub-room
overflow_sub-room c = c.loop-b.invariant.fits

piece : (c : Joined-b-eq35) → Piece c.args.text.now c.loop-b.b-index c.if-b-eq35.size c.loop-b.values.rest.now c.if-b-eq35.values.rest.now
piece c = elim c.if-b-eq35.branch [
  | then-b-eq35 w ↦ subst (λ s. Piece c.args.text.now c.loop-b.b-index c.if-b-eq35.size c.loop-b.values.rest.now s.rest.now) (sym w.values-is) (piece_number _ _ _ _ _ c.loop-b-test.true w.if-b-eq35.true _ (took _ _ _ _ w.copied.ensures w.next.ensures.steps) (took_in_range _ _ _ _ w.copied.ensures w.next.ensures.steps) (w.size-is ∙ w.digits_len-size.ensures))
  | else-b-eq35 w ↦ piece_byte _ _ _ _ _ c.loop-b-test.true w.if-b-eq35.false w.size-is (ap (λ s. s.rest.now) w.values-is)
]

pub returns-then-size-room : goal.returns-then-size-room
returns-then-size-room c = measured_short _ _ _ _ _ _ _ _ c.loop-b.invariant (piece (goal.at.returns-then-size-room c).Joined-b-eq35) c.if-size-room.true

pub loop-b-preserved : goal.loop-b-preserved
loop-b-preserved c = measured_more _ _ _ _ _ _ _ _ c.loop-b.invariant (piece (goal.at.loop-b-preserved c).Joined-b-eq35) c.if-size-room.false

pub returns : goal.returns
returns c = measured_all _ _ _ _ _ _ c.loop-b.invariant c.loop-b-test.false
