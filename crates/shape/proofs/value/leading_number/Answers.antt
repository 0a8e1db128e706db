use Rattle.std.proofs.Common.{◌≡◌, ◌+◌, ◌-◌, ◌<◌, ◌∷◌, take, drop, length, get_or, Ok, ℤ, pos, negsuc, ◌-ℤ◌, w32, to_z, of_z, sym, ap, ◌∙◌, subst, arith, rules}
use Rattle.std.proofs.lemmas.List.{take_rest, length-take-le, get_or-take, drop-take}
use Rattle.shape.specs.Decimal.{LongestNumber, figures}
use Rattle.shape.specs.Form.{Number}
use Rattle.shape.specs.Token.{Token}
use Rattle.shape.proofs.Signs.{not_zero, below_zero, negated, same_size, in_range_kept}
use Rattle.shape.proofs.Fronts.{no_number_leads, minus_part, leads}
use Rattle.shape.proofs.value.leading_number.Goals as goal

pub returns-in_err-len : goal.returns-in_err-len
returns-in_err-len c = rw c.from_residual.ensures (no_number_leads c.args.text.now _ c.number.ensures c.in_err-len.ensures.variant)

pub returns-in-45 : goal.returns-in-45
returns-in-45 c =
    let s = c.args.text.now in
    let n = c.in_ok-len.len in
    let m = c.figures_value.result in
    let t : Token Number s (Ok n) = search rules in
    let some : 0 < n = omega (arith, c.in-45.len_at_least, length-take-le n s t.0.fits) in
    let minus : get_or s 0 0 ≡ 45 = sym (get_or-take n s 0 0 some) ∙ omega arith in
    let p = minus_part s n t minus in
    let v = c.figures_value.ensures in
    let whole : n ≡ 1 + (n - 1) = omega arith in
    let is : take (length (take n s) - 1) (drop 1 (take n s)) ≡ take (n - 1) (drop 1 s) = take_rest (take n s) 1 ∙ ap (λ k. drop 1 (take k s)) whole ∙ drop-take 1 (n - 1) s in
    let f : take (n - 1) (drop 1 s) ≡ figures m = sym is ∙ v.1 in
    let z = not_zero _ m f p.1 in
    let b = below_zero m z v.0 in
    let P : ℤ → Type 0 = λ y. LongestNumber s y n in
    let y : to_z w32 (of_z w32 (pos 0 -ℤ to_z w32 (of_z w32 c.cast_signed.result))) ≡ negsuc (m - 1) =
    ap (λ x. to_z w32 (of_z w32 (pos 0 -ℤ to_z w32 (of_z w32 x)))) (c.cast_signed.ensures ∙ same_size m v.0) ∙ ap (λ x. to_z w32 (of_z w32 (pos 0 -ℤ x))) (in_range_kept (pos m) v.0 ∙ sym (same_size m v.0)) ∙ negated m z v.0 in
    subst P (sym y) (leads s n t _ b.0 (p.2 ∙ ap (λ x. 45 ∷ x) f ∙ b.1))

pub returns-in_default : goal.returns-in_default
returns-in_default c =
    let s = c.args.text.now in
    let n = c.in_ok-len.len in
    let t : Token Number s (Ok n) = search rules in
    let v = c.figures_value-in_default.ensures in
    let P : ℤ → Type 0 = λ y. LongestNumber s y n in
    let y : to_z w32 (of_z w32 c.cast_signed-value.result) ≡ pos c.figures_value-in_default.result = ap (λ x. to_z w32 (of_z w32 x)) (c.cast_signed-value.ensures ∙ same_size _ v.0) ∙ in_range_kept (pos _) v.0 in
    subst P (sym y) (leads s n t _ v.0 v.1)
