use Rattle.std.proofs.Common.{refl, inl, inr}
use Rattle.std.proofs.lemmas.Result.{err_from_is_err_and}
use Rattle.kinds.proofs.Measured.{told_len, measured_none, first_unlawful, measured_add, measured_keep, measured_lawful, measured_past, measured_all}
use Rattle.kinds.proofs.text.measure.Goals as goal
use Rattle.kinds.proofs.text.measure.Goals.{then-total-le-MOST_BYTES, else-total-le-MOST_BYTES, then-items-gt-MOST_ITEMS-via-then-items-gt-MOST_ITEMS, then-items-gt-MOST_ITEMS-via-else-items-gt-MOST_ITEMS+then-total-gt-MOST_BYTES}

pub loop-index-init : goal.loop-index-init
loop-index-init g c = measured_none g.K.Kind.lawful g.K.Kind.line c.args.items.now

pub returns-in_err-len : goal.returns-in_err-len
returns-in_err-len g c =
    let p = err_from_is_err_and c.from_residual.result c.from_residual.ensures.1 in
    let w = (told_len _ _ _ _ c.line_len.ensures).1 _ c.in_err-len.ensures.value in
    rw (p.1, p.2, w.1) (inl (c.loop-index.index, first_unlawful g.K.Kind.lawful g.K.Kind.line _ _ _ _ c.loop-index-test.true c.index-items-index.is c.loop-index.invariant w.0, refl))

pub loop-index-preserved : goal.loop-index-preserved
loop-index-preserved g c =
    let w = (told_len _ _ _ _ c.line_len.ensures).0 _ c.in_ok-len.ensures.value in
    elim c.if-total-le-MOST_BYTES.branch [
      | then-total-le-MOST_BYTES v ↦ measured_add g.K.Kind.lawful g.K.Kind.line _ _ _ _ c.loop-index-test.true c.index-items-index.is c.loop-index.invariant w.0 _ w.1 w.2 _ v.if-total-le-MOST_BYTES.true v.total-is
      | else-total-le-MOST_BYTES v ↦ measured_keep g.K.Kind.lawful g.K.Kind.line _ _ _ _ c.loop-index-test.true c.index-items-index.is c.loop-index.invariant w.0 _ w.1 w.2 _ v.if-total-le-MOST_BYTES.false v.total-is
    ]

pub returns-then-items-gt-MOST_ITEMS : goal.returns-then-items-gt-MOST_ITEMS
returns-then-items-gt-MOST_ITEMS g c =
    let all = c.loop-index-test.false in
    inr (
      measured_lawful g.K.Kind.lawful g.K.Kind.line _ _ _ all c.loop-index.invariant,
      elim c.then-items-gt-MOST_ITEMS.branch [
        | then-items-gt-MOST_ITEMS-via-then-items-gt-MOST_ITEMS w ↦ inl w.if-items-gt-MOST_ITEMS.true
        | then-items-gt-MOST_ITEMS-via-else-items-gt-MOST_ITEMS+then-total-gt-MOST_BYTES w ↦ inr (measured_past g.K.Kind.lawful g.K.Kind.line _ _ _ all c.loop-index.invariant w.if-total-gt-MOST_BYTES.true)
      ],
      refl,
    )

pub returns : goal.returns
returns g c = measured_all g.K.Kind.lawful g.K.Kind.line _ _ _ c.loop-index-test.false c.loop-index.invariant c.if-items-gt-MOST_ITEMS.false c.if-total-gt-MOST_BYTES.false
