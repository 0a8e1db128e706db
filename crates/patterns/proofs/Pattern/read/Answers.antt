use Rattle.std.proofs.Common.{◌≡◌, ◌∷◌, length, get_or, drop, set, sym, ap, ap₂, ◌∙◌, inl, arith, rules}
use Rattle.std.proofs.lemmas.List.{nil_from_length, take_rest, length-set, length-replicate}
use Rattle.std.specs.Iterator.Adapters.{enumerate_source, enumerate_count}
use Rattle.std.proofs.lemmas.Bool.{eqb-true, eqb-false}
use Rattle.shape.proofs.Signs.{in_range_kept}
use Rattle.patterns.proofs.Found.{found_none, found_past, found_missing, found_number, found_other, found_byte, found_whole, found_part, none_came}
use Rattle.patterns.proofs.Pattern.read.Goals as goal
use Rattle.patterns.proofs.Pattern.read.Goals.{then-b-eq35+in_ok-place+in_ok-found, else-b-eq35+in_ok-first+else-first-b, then-is_empty, else-is_empty}

pub loop-b-init : goal.loop-b-init
loop-b-init g c =
    let n = c.enumerate-places.ensures.count in
    let e = ap (λ s. s.rest.now) c.enumerate-places.ensures.source ∙ c.iter.ensures.rest in
    (rw (n, e) (found_none c.args.self.now.text.now c.args.self.now.ranges.now c.args.line.now _), length-replicate _ _)

pub returns-in_err-place : goal.returns-in_err-place
returns-in_err-place g c = λ _. rw c.from_residual.ensures (found_past _ _ _ _ _ _ _ _ c.loop-b.invariant.0 c.loop-b-test.true c.if-b-eq35.true c.in_err-place.ensures.steps.0.0)

pub returns-in_err-found : goal.returns-in_err-found
returns-in_err-found g c = λ _. rw c.from_residual-in_err-found.ensures (found_missing _ _ _ _ _ _ _ _ c.loop-b.invariant.0 c.loop-b-test.true c.if-b-eq35.true _ _ c.in_ok-place.ensures.steps.0 c.in_err-found.ensures)

pub bounds-values-place : goal.bounds-values-place
bounds-values-place g c = omega (arith, c.loop-b.invariant.0.counted, c.if-self.false, c.in_ok-place.ensures.steps.1, ap length c.in_ok-place.ensures.steps.0)

pub offset_bounds-values-place : goal.offset_bounds-values-place
offset_bounds-values-place g c = search (rules, bounds-values-place g c)

pub returns-in_err-first : goal.returns-in_err-first
returns-in_err-first g c = λ _. rw c.from_residual-in_err-first.ensures (found_other _ _ _ _ _ _ _ _ c.loop-b.invariant.0 c.loop-b-test.true c.if-b-eq35.false (λ m e. omega (arith, ap length e, c.in_err-first.ensures.cases)))

pub returns-then-first-b : goal.returns-then-first-b
returns-then-first-b g c = λ _. found_other _ _ _ _ _ _ _ _ c.loop-b.invariant.0 c.loop-b-test.true c.if-b-eq35.false (λ m e. c.if-first-b.true (ap (λ z. get_or z 0 0) (sym c.in_ok-first.ensures.cases.0 ∙ e)))

pub loop-b-preserved : goal.loop-b-preserved
loop-b-preserved g c =
    elim c.if-b-eq35.branch [
      | then-b-eq35+in_ok-place+in_ok-found w ↦
          let x = w.in_ok-found.found in
          let y = w.in_ok-found.ensures in
          let step = w.in_ok-place.ensures.steps in
          let f = found_number _ _ _ _ _ _ _ _ c.loop-b.invariant.0 c.loop-b-test.true w.if-b-eq35.true _ _ step.0 x y (c.loop-b.invariant.1 ∙ sym c.if-self.false) in
          let v : c.if-b-eq35.values ≡ set c.loop-b.values (enumerate_count c.loop-b.places) x.value = w.values-is ∙ ap₂ (set c.loop-b.values) step.1 (in_range_kept x.value y.0.in_range) in
          let left : c.if-b-eq35.rest.now ≡ drop x.len c.loop-b.rest.now = ap (λ l. l.now) w.rest-is ∙ take_rest c.loop-b.rest.now x.len in
          (rw (v, w.places-is, step.2, left) f, ap length v ∙ length-set _ _ _ ∙ c.loop-b.invariant.1)
      | else-b-eq35+in_ok-first+else-first-b w ↦
          let f = found_byte _ _ _ _ _ _ _ _ c.loop-b.invariant.0 c.loop-b-test.true w.if-b-eq35.false w.in_ok-first.after.now (w.in_ok-first.ensures.cases.0 ∙ ap (λ z. z ∷ w.in_ok-first.after.now) w.if-first-b.false) in
          (rw (w.values-is, w.places-is, w.rest-is) f, ap length w.values-is ∙ c.loop-b.invariant.1)
    ]

pub next-requires-then-is_empty : goal.next-requires-then-is_empty
next-requires-then-is_empty g c = (tt, tt, inl (omega (arith, c.loop-b.invariant.0.counted, c.iter.ensures.bound, c.iter.ensures.len)))

pub returns : goal.returns
returns g c = λ same.
    rw c.then_some.ensures (elim c.if-is_empty.branch [
      | then-is_empty w ↦
          let ended = none_came _ _ (length (enumerate_source c.loop-b.places).rest.now) _ w.is_none.result w.is_none.ensures w.next-then-is_empty.ensures.steps (λ k. k.0.0) (λ x k. omega (arith, ap length k.0)) in
          rw w.then_some-is (found_whole _ _ _ _ _ _ _ _ c.loop-b.invariant.0 c.loop-b-test.false (c.loop-b.invariant.1 ∙ sym c.if-self.false) (nil_from_length _ (eqb-true _ 0 (sym w.if-is_empty.ensures))) w.is_none.result ended.0 ended.1)
      | else-is_empty w ↦ rw (w.then_some-is, w.if-is_empty.false) (found_part _ _ _ _ _ _ _ _ c.loop-b.invariant.0 c.loop-b-test.false (λ e. eqb-false (length c.loop-b.rest.now) 0 (sym w.if-is_empty.ensures) (ap length e)))
    ])
