use Rattle.std.proofs.Common.{◌≡◌, ◌<◌, length, sym, ap, ◌∙◌, inl, arith, rules}
use Rattle.std.specs.Iterator.Adapters.{enumerate_source, enumerate_count}
use Rattle.kinds.specs.declared.text.Lines.{Lines}
use Rattle.kinds.specs.Text.{lines}
use Rattle.kinds.proofs.Sheets.{none_bad, items_length}
use Rattle.kinds.proofs.Along.{along_read, comes_next, more, is_line, all_past, filled_none, filled_next, filled_all}
use Rattle.kinds.proofs.text.fill_places.Given as given
use Rattle.kinds.proofs.text.fill_places.Goals as goal

pub loop-place-init : goal.loop-place-init
loop-place-init g c =
    let e = c.into_iter-place-iterator.ensures.into_iter_gives in
    let none' : enumerate_count c.into_iter-place-iterator.result ≡ 0 = ap enumerate_count e ∙ c.enumerate-place-items.ensures.count in
    let all : lines (enumerate_source c.into_iter-place-iterator.result).rest.now ≡ lines c.args.text.now = ap (λ s. lines (enumerate_source {I = Lines} s).rest.now) e ∙ ap (λ s. lines s.rest.now) c.enumerate-place-items.ensures.source in
    let long = items_length g.K.Kind.reading _ c.requires.0 c.requires.1.items in (
      (tt, tt, inl (omega (arith, none', ap length all, long, c.requires.1.few))),
      tt,
      rw none' all,
      omega (arith, none'),
      rw none' (filled_none g.K.Kind.reading c.args.text.now c.args.items.now),
    )

pub returns-in_default : goal.returns-in_default
returns-in_default g c =
    absurd (none_bad g.K.Kind.reading _ (sym c.in_default.ensures) (along_read g.K.Kind.reading c.args.text.now _ _ _ _ c.loop-place.invariant.2 c.in-Some.ensures.steps.0 c.requires.0 c.requires.1))

-- there is a place for the item
place : (g : given.Over) (c : goal.In-Some-read g) → c.in-Some.place < length c.loop-place.items
place g c =
    let m = more g.K.Kind.reading c.args.text.now _ _ _ _ c.loop-place.invariant.2 c.in-Some.ensures.steps.0 in
    let e = items_length g.K.Kind.reading _ c.requires.0 c.requires.1.items in
    let long : length c.loop-place.items ≡ length c.args.items.now = c.loop-place.auto.items in
    omega (arith, m, e, c.requires.2, c.in-Some.ensures.steps.1)

pub bounds-items-place : goal.bounds-items-place
bounds-items-place g c = place g c

pub offset_bounds-items-place : goal.offset_bounds-items-place
offset_bounds-items-place g c = search (rules, place g c)

pub loop-place-preserved : goal.loop-place-preserved
loop-place-preserved g c =
    let step = c.in-Some.ensures.steps in
    let t = c.args.text.now in
    let on = c.in-Some.ensures.goes.on c.loop-place.invariant.1 in
    let m = more g.K.Kind.reading t _ _ _ _ c.loop-place.invariant.2 step.0 in (
      on.0,
      on.1,
      rw step.2 (comes_next g.K.Kind.reading t _ _ _ _ c.loop-place.invariant.2 step.0),
      omega (arith, m, step.2),
      rw (step.2, step.1) (filled_next g.K.Kind.reading t _ _ _ c.loop-place.invariant.4 _ m (is_line g.K.Kind.reading t _ _ _ _ c.loop-place.invariant.2 step.0) _ (sym c.in-Some-read.ensures) (omega (arith, place g c, step.1))),
    )

pub returns : goal.returns
returns g c = λ xs r. filled_all g.K.Kind.reading c.args.text.now _ _ _ c.loop-place.invariant.4 (omega (arith, c.loop-place.invariant.3, all_past g.K.Kind.reading c.args.text.now _ _ c.loop-place.invariant.2 c.in-None.ensures.steps.0.0)) xs r
