-- Arrays made element by element by a closure that changes nothing.
use Rattle.std.proofs.Common.{◌≡◌, ℕ, zero, suc, ◌+◌, ◌<◌, ◌≤◌, List, length, get_or, map, ap, ◌∙◌, ⊎_elim, subst, refl, sym, arith}
use Rattle.std.specs.Array.{IsFromFnResult, IsFromFnResultFrom, IsMapOf, MapsFrom}
use Rattle.std.specs.List.{range_with_len}
use Rattle.std.specs.Fn.{Mut, Called}
use Rattle.std.proofs.lemmas.Bool.{cases_lt}
use Rattle.std.proofs.lemmas.List.{ext_get_or, get_or-map, length-map}
use Rattle.std.proofs.lemmas.List.FromFn.{fill_by_all}

-- by `array::from_fn`, from each index
module _ {F B : Type 0} (g : Mut F (ℕ × Unit {0}) B) (h : ℕ → B) (f : F) (same : (i : ℕ) (y : B) (f' : F) → Called g f (i, tt) y f' → (y ≡ h i) × (f' ≡ f)) where
  made_from : (e : F) (ys : List B) (i n k : ℕ) (d : B) → e ≡ f → IsFromFnResultFrom g e ys i n → i ≤ k → k < i + n → get_or ys k d ≡ h k
  made_from e ys i zero k d is m le lt = absurd (omega arith)
  made_from e ys i (suc n) k d is m le lt =
      let s = same i m.1 m.0 (subst (λ (x : F). Called g x (i, tt) m.1 m.0) is m.3) in
      ⊎_elim
      (λ (b : k < i + 1).
      let at : i ≡ k = omega arith in
      ap (λ j. get_or ys j d) (sym at) ∙ m.2.1 d ∙ s.0 ∙ ap h at)
      (λ (b : i + 1 ≤ k). made_from m.0 ys (i + 1) n k d s.1 m.4 b (omega arith))
      (cases_lt k (i + 1))

  pub from_fn_same : (ys : List B) (n : ℕ) (d : B) → IsFromFnResult g f ys n → ys ≡ map h (range_with_len 0 n)
  from_fn_same ys n d m = fill_by_all h ys n d m.long (λ k lt. made_from f ys 0 n k d refl m.each (omega arith) (omega arith))

-- by an array's `map`, from each element of another
module _ {F A B : Type 0} (g : Mut F (A × Unit {0}) B) (h : A → B) (f : F) (same : (x : A) (y : B) (f' : F) → Called g f (x, tt) y f' → (y ≡ h x) × (f' ≡ f)) where
  mapped_from : (e : F) (xs : List A) (ys : List B) (i n k : ℕ) (c : A) (d : B) → e ≡ f → MapsFrom g e xs ys i n → i ≤ k → k < i + n → get_or ys k d ≡ h (get_or xs k c)
  mapped_from e xs ys i zero k c d is m le lt = absurd (omega arith)
  mapped_from e xs ys i (suc n) k c d is m le lt =
      let s = same m.1 m.2 m.0 (subst (λ (z : F). Called g z (m.1, tt) m.2 m.0) is m.5) in
      ⊎_elim
      (λ (b : k < i + 1).
      let at : i ≡ k = omega arith in
      ap (λ j. get_or ys j d) (sym at) ∙ m.4.1 d ∙ s.0 ∙ ap h (sym (m.3.1 c) ∙ ap (λ j. get_or xs j c) at))
      (λ (b : i + 1 ≤ k). mapped_from m.0 xs ys (i + 1) n k c d s.1 m.6 b (omega arith))
      (cases_lt k (i + 1))

  pub map_same : (xs : List A) (ys : List B) (n : ℕ) (c : A) (d : B) → length xs ≡ n → IsMapOf g f xs ys n → ys ≡ map h xs
  map_same xs ys n c d l m =
      ext_get_or d ys (map h xs) (m.long ∙ sym l ∙ sym (length-map xs h))
      (λ k lt. mapped_from f xs ys 0 n k c d refl m.each (omega arith) (omega (arith, m.long)) ∙ sym (get_or-map h xs k c d (omega (arith, m.long))))
