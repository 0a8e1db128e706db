use Rattle.std.proofs.Common.{◌≡◌, ◌+◌, ◌-◌, ◌≤◌, length, take, drop, refl, ap, ◌∙◌, subst, arith, rules}
use Rattle.std.proofs.lemmas.List.{take_rest, length-drop}
use Rattle.kinds.proofs.Overwrite.{Over, over_none, over_part, over_byte, over_all}
use Rattle.patterns.specs.Pattern.{spelt, digits_of}
use Rattle.patterns.proofs.Spell.{no_more, number_comes, byte_comes, number_room, byte_room, took, took_in_range}
use Rattle.patterns.proofs.put_line.Goals as goal
use Rattle.patterns.proofs.put_line.Goals.{After-copied, then-b-eq35, else-b-eq35}

pub loop-b-init : goal.loop-b-init
loop-b-init c =
    let e = c.iter-values.ensures.rest in
    (rw e (over_none (spelt c.args.text.now c.args.values.now) c.args.out.now), rw e c.requires.0)

-- there is room for the digits
room : (c : After-copied) → c.loop-b.at + length (digits_of c.copied.result) ≤ length c.loop-b.out
room c = number_room _ _ _ _ _ _ _ c.loop-b.invariant.0 c.loop-b-test.true c.requires.1 c.if-b-eq35.true _ _ (took _ _ _ _ c.copied.ensures c.next.ensures.steps)

pub slice_bounds-put_digits-count : goal.slice_bounds-put_digits-count
slice_bounds-put_digits-count c = omega (arith, room c)

pub slice_bounds-put_digits-start : goal.slice_bounds-put_digits-start
slice_bounds-put_digits-start c = search (rules, room c)

pub put_digits-at-requires : goal.put_digits-at-requires
put_digits-at-requires c =
    let out = c.loop-b.out in
    let at = c.loop-b.at in
    let part : length (take (length out - at) (drop at out)) ≡ length out - at = ap length (take_rest out at) ∙ length-drop at out in
    ((took_in_range _ _ _ _ c.copied.ensures c.next.ensures.steps c.loop-b.invariant.1).0, omega (arith, room (goal.at.put_digits-at-requires c).After-copied))

pub bounds-out-at : goal.bounds-out-at
bounds-out-at c = byte_room _ _ _ _ _ _ _ c.loop-b.invariant.0 c.loop-b-test.true c.requires.1 c.if-b-eq35.false

pub overflow_add-at-else-b-eq35 : goal.overflow_add-at-else-b-eq35
overflow_add-at-else-b-eq35 c = search (rules, bounds-out-at c)

pub loop-b-preserved : goal.loop-b-preserved
loop-b-preserved c =
    let p = c.args.text.now in
    let vs = c.args.values.now in
    let before = c.args.out.now in
    let w = spelt p vs in
    let i = c.loop-b.b-index in
    elim c.if-b-eq35.branch [
      | then-b-eq35 v ↦
          let t = took _ _ _ _ v.copied.ensures v.next.ensures.steps in
          let o = number_comes p vs before c.loop-b.out c.loop-b.at i _ c.loop-b.invariant.0 c.loop-b-test.true v.if-b-eq35.true _ _ t in
          let k = v.put_digits-at.ensures in
          rw (v.out-is, v.at-is, v.values-is) (over_part w before c.loop-b.out c.loop-b.at _ _ _ _ _ o k.len refl k.after, (took_in_range _ _ _ _ v.copied.ensures v.next.ensures.steps c.loop-b.invariant.1).1)
      | else-b-eq35 v ↦
          let o = byte_comes p vs before c.loop-b.out c.loop-b.at i _ c.loop-b.invariant.0 c.loop-b-test.true v.if-b-eq35.false in
          rw (v.out-is, v.at-is, v.values-is) (over_byte w before c.loop-b.out c.loop-b.at _ _ c.requires.1 o, c.loop-b.invariant.1)
    ]

pub returns : goal.returns
returns c =
    let w = spelt c.args.text.now c.args.values.now in
    let o = subst (λ z. Over w c.args.out.now c.loop-b.out c.loop-b.at z) (no_more c.args.text.now _ c.loop-b.b-index c.loop-b-test.false) c.loop-b.invariant.0 in
    (over_all w c.args.out.now c.loop-b.out c.loop-b.at o).1
