-- Running values turned by one block, one after the other.
use Rattle.std.proofs.Common.{◌≡◌, ℕ, ◌+◌, ◌-◌, ◌<◌, ◌≤◌, List, ◌++◌, length, get_or, take, drop, sym, ap, ◌∙◌, ⊎_elim, arith}
use Rattle.std.proofs.lemmas.List.{get_or_append_left, get_or-append-add, get_or-take, get_or-drop}
use Rattle.std.proofs.lemmas.Bool.{cases_lt}
use Rattle.hash.specs.declared.HashKeys.{HashKeys}
use Rattle.hash.specs.Hash.{turn, prime}
use Rattle.hash.specs.Running.{poly_point, Below}

-- The values below i are turned by a number of their own each, and those from i on are as they were.
pub record Turned (keys : HashKeys) (a : ℕ → ℕ) (i : ℕ) (was now : List ℕ) : Type 0 where
  pub done : (k : ℕ) → k < i → get_or now k 0 ≡ turn (poly_point keys k) (get_or was k 0) (a k)
  pub rest : (k : ℕ) → i ≤ k → get_or now k 0 ≡ get_or was k 0

pub turn_lt : (k h a : ℕ) → turn k h a < prime
unfolding turn
turn_lt k h a = omega arith

-- the first t of some values turned, and the others behind them
module _ (keys : HashKeys) (a : ℕ → ℕ) (t : ℕ) (was now : List ℕ) (n : length now ≡ t) (h : Turned keys a t (take t was) now) where
  pub turned_front : (k : ℕ) → k < t → get_or (now ++ drop t was) k 0 ≡ turn (poly_point keys k) (get_or was k 0) (a k)
  turned_front k lt =
      get_or_append_left now (drop t was) 0 k (omega arith) ∙ h.done k lt ∙ ap (λ x. turn (poly_point keys k) x (a k)) (get_or-take t was k 0 lt)

  pub turned_below : Below was → Below (now ++ drop t was)
  turned_below b k =
      ⊎_elim
      (λ (lt : k < t). omega (arith, turned_front k lt, turn_lt (poly_point keys k) (get_or was k 0) (a k)))
      (λ le.
      let e : length now + (k - t) ≡ k = omega arith in
      let f : t + (k - t) ≡ k = omega arith in
      let g : get_or (now ++ drop t was) k 0 ≡ get_or was k 0 =
      ap (λ x. get_or (now ++ drop t was) x 0) (sym e) ∙ get_or-append-add now (drop t was) (k - t) 0 ∙ get_or-drop t was (k - t) 0 ∙ ap (λ x. get_or was x 0) f
      in
      omega (arith, g, b k))
      (cases_lt k t)
