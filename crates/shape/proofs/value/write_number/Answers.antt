use Rattle.std.proofs.Common.{◌≡◌, suc, ◌-◌, ◌≤◌, true, ◌∷◌, ◌++◌, length, take, drop, set, pos, nat_abs, Some, sym, ap, ◌∙◌, arith, rules, tests, w32}
use lib.Signed.{lt_z}
use Rattle.std.proofs.lemmas.Int.{to_z-of_z}
use Rattle.std.proofs.lemmas.List.{length-set, length-take, length-drop}
use Rattle.shape.specs.Decimal.{figures, digits, MeasuresNumber}
use Rattle.shape.proofs.Figures.{written_where_room}
use Rattle.shape.proofs.Signs.{digits_below, put_below}
use Rattle.shape.proofs.value.write_number.Goals as goal

pub returns-then-value-lt0 : goal.returns-then-value-lt0
returns-then-value-lt0 c =
    let e = to_z-of_z w32 c.args.value c.ranges.value in
    let m = c.unsigned_abs-size.result in
    let out = c.args.out.now in
    let below : lt_z c.args.value (pos 0) ≡ true = ap (λ y. lt_z y (pos 0)) (sym e) ∙ c.if-value-lt0.true in
    let w : digits c.args.value ≡ 45 ∷ figures m = digits_below c.args.value m below (c.unsigned_abs-size.ensures.value ∙ ap nat_abs e) in
    let n : length (set out 0 45) - 1 ≡ length out - 1 = simp length-set in
    let q : c.number_len.result ≡ Some c.in_ok-len.len = search rules in
    let h : MeasuresNumber c.args.value (Some c.in_ok-len.len) = rw (e, q) at c.number_len.ensures in
    let long : c.in_ok-len.len ≡ suc (length (figures m)) = h.1 ∙ ap length w in
    let room : c.in_ok-len.len ≤ length out = search (rules, tests) in
    let tail : length (take (length (set out 0 45) - 1) (drop 1 (set out 0 45))) ≡ length out - 1 = simp (length-take, length-drop, length-set) (omega arith) in
    let p = put_below out _ (figures m) _ (omega arith) n (written_where_room m _ _ _ (omega arith) c.write_figures.ensures) in
    (h.0, h.1, room, p ∙ ap (λ x. (45 ∷ figures m) ++ drop x out) (sym long) ∙ ap (λ x. x ++ drop c.in_ok-len.len out) (sym w))
