use Rattle.std.proofs.Common.{◌≡◌, ◌<◌, [], ◌∷◌, length, get_or, sym, ap, ◌∙◌, arith}
use Rattle.std.proofs.lemmas.List.{take_more}
use Rattle.shape.proofs.Figures.{figures_one}
use Rattle.sealed.proofs.Values.{zero_token, zero_none, none_token, value_token, value_is}
use Rattle.sealed.proofs.unchecked.reading.read_value.Goals as goal
use Rattle.sealed.proofs.unchecked.reading.read_value.Goals.{else-s-gt0-via-then-s-gt0+else-s-eq48, else-s-gt0-via-else-s-gt0}

pub returns-then-low-gt0 : goal.returns-then-low-gt0
returns-then-low-gt0 c = zero_none c.args.low c.args.high c.requires.0 c.requires.1 (omega arith) c.args.s.now (omega arith) (omega arith) c.if-s-eq48.true

pub returns-then-s-eq48 : goal.returns-then-s-eq48
returns-then-s-eq48 c =
    let l : 0 < length c.args.s.now = omega arith in (
      zero_token c.args.low c.args.high c.requires.0 c.requires.1 (omega arith) c.args.s.now (omega arith) l c.if-s-eq48.true,
      take_more c.args.s.now 0 0 l ∙ ap (λ x. x ∷ []) c.if-s-eq48.true ∙ sym (figures_one 0 (omega arith)),
      omega arith,
      omega arith,
    )

pub returns-then-found-eq0 : goal.returns-then-found-eq0
returns-then-found-eq0 c =
    none_token c.args.low c.args.high c.requires.0 c.requires.1 (omega arith) c.args.s.now _ _ c.counted-found.ensures
    (λ l e. elim c.else-s-gt0.branch [ else-s-gt0-via-then-s-gt0+else-s-eq48 w ↦ w.if-s-eq48.false e | else-s-gt0-via-else-s-gt0 w ↦ omega (arith, w.if-s-gt0.false) ])
    c.if-found-eq0.true

pub returns : goal.returns
returns c =
    let nz : 0 < length c.args.s.now → get_or c.args.s.now 0 0 ≡ 48 → ⊥ = λ l e. elim c.else-s-gt0.branch [ else-s-gt0-via-then-s-gt0+else-s-eq48 w ↦ w.if-s-eq48.false e | else-s-gt0-via-else-s-gt0 w ↦ omega (arith, w.if-s-gt0.false) ] in
    let run = c.counted-found.ensures in
    let v = value_is c.args.low c.args.high c.requires.0 c.requires.1 (omega arith) c.args.s.now _ _ run nz (omega arith) in
    (value_token c.args.low c.args.high c.requires.0 c.requires.1 (omega arith) c.args.s.now _ _ run nz (omega arith), v.0, v.1, v.2)
