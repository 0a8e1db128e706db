-- The column of a fault, for any set of lines.
use Rattle.std.proofs.Common.{◌≡◌, ℕ, ◌+◌, ◌-◌, ◌<◌, ◌≤◌, List, [], ◌∷◌, ◌++◌, length, take, drop, sym, refl, ap, ◌∙◌, ⊎_elim, append_assoc, arith, length-append}
use Rattle.std.proofs.lemmas.List.{take-take, take-append-drop, take_at, length_push}
use Rattle.std.proofs.lemmas.Bool.{cases_order}
use Rattle.shape.specs.Column.{Front, Column, OneColumn}

module _ (P : List ℕ → Type 0) where
  -- what begins a line, its own front parts begin
  pub front_shorter : (l : List ℕ) (m n : ℕ) → m ≤ n → Front P (take n l) → Front P (take m l)
  front_shorter l m n h f =
      let e : take m l ++ drop m (take n l) ≡ take n l = rw (← take-take m n l h) (take-append-drop m (take n l)) in
      (drop m (take n l) ++ f.0, rw (← append_assoc (take m l) (drop m (take n l)) f.0, e) f.1)

  -- it is enough that one byte more begins no line
  pub column_next : (l : List ℕ) (c : ℕ) → 1 ≤ c → c ≤ length l + 1 → Front P (take (c - 1) l) → (c ≤ length l → Front P (take c l) → ⊥) → Column P l c
  column_next l c f k b next = record { first = f; last = k; before = b; longest = λ n h i g. next (omega arith) (front_shorter l c n h g) }

  pub one_column : OneColumn P
  one_column l c c' h k =
      let lower : (a b : ℕ) → Column P l a → Column P l b → a < b → ⊥ = λ a b p q lt. p.longest (b - 1) (omega arith) (omega (arith, q.last)) q.before in
      ⊎_elim (λ e. e) (⊎_elim (λ lt. absurd (lower c c' h k lt)) (λ lt. absurd (lower c' c k h lt))) (cases_order c c')

  -- the line in two parts: the first begins a line of P, and with the next byte it does not
  pub column_cut : (l front back : List ℕ) (n : ℕ) → l ≡ front ++ back → length front ≡ n → Front P front → ((b : ℕ) (q r : List ℕ) → back ≡ b ∷ q → P (front ++ b ∷ r) → ⊥) → Column P l (n + 1)
  column_cut l front back n cut long can stuck =
      let few : n ≤ length l = omega (arith, ap length cut, length-append front back) in
      let z : n + 1 - 1 ≡ n = omega arith in
      let e : take (n + 1 - 1) l ≡ front = rw (z, cut) (take_at front back n long) in
      column_next l (n + 1) (omega arith) (omega arith) (rw e can) (λ h g. no_next back cut stuck h g)
    where
      no_next : (back : List ℕ) → l ≡ front ++ back → ((b : ℕ) (q r : List ℕ) → back ≡ b ∷ q → P (front ++ b ∷ r) → ⊥) → n + 1 ≤ length l → Front P (take (n + 1) l) → ⊥
      no_next [] cut stuck h g = omega (arith, ap length cut, length-append front [])
      no_next (b ∷ q) cut stuck h g =
          let e : take (n + 1) l ≡ front ++ b ∷ [] = ap (take (n + 1)) (cut ∙ sym (append_assoc front (b ∷ []) q)) ∙ take_at (front ++ b ∷ []) q (n + 1) (length_push front b ∙ ap (λ i. i + 1) long) in
          stuck b q g.0 refl (rw append_assoc at (rw e at g.1))

-- two sets of the same lines
pub column_like : (P Q : List ℕ → Type 0) → ((l : List ℕ) → P l → Q l) → ((l : List ℕ) → Q l → P l) → (l : List ℕ) (c : ℕ) → (P l → ⊥) × Column P l c → (Q l → ⊥) × Column Q l c
column_like P Q to from l c v =
    let k = v.1 in
    (λ q. v.0 (from l q), record { first = k.first; last = k.last; before = (k.before.0, to _ k.before.1); longest = λ n h i f. k.longest n h i (f.0, from _ f.1) })
