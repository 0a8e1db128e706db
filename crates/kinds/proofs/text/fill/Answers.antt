use Rattle.std.proofs.Common.{◌++◌, drop, sym, refl, ap, ◌∙◌, inl, inr, arith}
use Rattle.std.proofs.lemmas.Result.{err_from_is_err_and}
use Rattle.kinds.proofs.text.fill.Goals as goal

pub returns-in_err-count : goal.returns-in_err-count
returns-in_err-count g c =
    let p = err_from_is_err_and c.from_residual.result c.from_residual.ensures.1 in
    rw (p.1, p.2) (inl c.in_err-count.ensures.answer, refl)

pub returns-then-items-count : goal.returns-then-items-count
returns-then-items-count g c =
    let m = c.in_ok-count.ensures.answer in
    (inr (m.0, m.1, omega (arith, m.2), refl), refl)

pub fill_places-requires : goal.fill_places-requires
fill_places-requires g c =
    let m = c.in_ok-count.ensures.answer in
    (m.0, m.1, omega (arith, m.2))

pub returns : goal.returns
returns g c =
    let m = c.in_ok-count.ensures.answer in
    (m.0, m.1, m.2, c.if-items-count.false, c.fill_places.ensures m.0 m.1 ∙ ap (λ n. m.0 ++ drop n c.args.items.now) (sym m.2))
