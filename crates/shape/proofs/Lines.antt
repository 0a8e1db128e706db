-- A line is a writing of G and a line end: the column of its fault, for any G of which no writing begins another.
use Rattle.std.proofs.Common.{◌≡◌, ℕ, ◌+◌, ◌<◌, ◌≤◌, List, [], ◌∷◌, ◌++◌, length, get_or, drop, sym, refl, ap, ◌∙◌, append_assoc, arith}
use Rattle.std.proofs.lemmas.List.{append-nil, length_push, drop_at, drop_all, length-drop, get_or-drop}
use Rattle.shape.specs.Column.{Front, Column}
use Rattle.shape.specs.Outcome.{Read, Fault}
use Rattle.shape.proofs.Carry.{drop_byte}
use Rattle.shape.proofs.Columns.{column_cut}

-- what stands after two writings of one list is the same
abbrev pub Apart : (List ℕ → Type 0) → Type 0
Apart G = (w w' k k' : List ℕ) → G w → G w' → w ++ k ≡ w' ++ k' → k ≡ k'

abbrev pub Line : (List ℕ → Type 0) → List ℕ → Type 0
Line G l = (w : List ℕ) × G w × (l ≡ w ++ 10 ∷ [])

byte_at : (l : List ℕ) (n b : ℕ) (q : List ℕ) → drop n l ≡ b ∷ q → (n < length l) × (get_or l n 0 ≡ b)
byte_at l n b q e = (omega (arith, ap length e, length-drop n l), ap (λ i. get_or l i 0) (omega arith) ∙ sym (get_or-drop n l 0 0) ∙ ap (λ z. get_or z 0 0) e)

module _ (G : List ℕ → Type 0) (apart : Apart G) (l : List ℕ) (n : ℕ) where
  not_line : (o : Fault G l n) (back : List ℕ) → o.back ≡ back → Line G l → ⊥
  not_line o [] e p =
      let h : o.front ≡ p.0 ++ 10 ∷ [] = sym (append-nil o.front) ∙ ap (λ z. o.front ++ z) (sym e) ∙ sym o.cut ∙ p.2 in
      let k : p.0 ++ (10 ∷ o.more) ≡ (o.front ++ o.more) ++ [] = sym (append_assoc p.0 (10 ∷ []) o.more) ∙ ap (λ z. z ++ o.more) (sym h) ∙ sym (append-nil (o.front ++ o.more)) in
      omega (arith, ap length (apart p.0 (o.front ++ o.more) (10 ∷ o.more) [] p.1 o.can k))
  not_line o (b ∷ q) e p = o.stuck b q p.0 (10 ∷ []) q e p.1 (sym p.2 ∙ o.cut ∙ ap (λ z. o.front ++ z) e)

  -- a fault in the writing
  pub line_fault : Fault G l n → (Line G l → ⊥) × Column (Line G) l (n + 1)
  line_fault o =
      let can : Front (Line G) o.front = (o.more ++ 10 ∷ [], (o.front ++ o.more, o.can, sym (append_assoc o.front o.more (10 ∷ [])))) in
      (not_line o o.back refl, column_cut (Line G) l o.front o.back n o.cut o.long can (λ b q r e p. o.stuck b q p.0 (10 ∷ []) r e p.1 (sym p.2)))

  module _ (o : Read G l n) where
    left : drop n l ≡ o.back
    left = rw o.cut (drop_at o.front o.back n o.long)

    after_writing : (r : List ℕ) → Line G (o.front ++ r) → r ≡ 10 ∷ []
    after_writing r p = apart o.front p.0 r (10 ∷ []) o.is p.1 p.2

    after : Line G l → drop n l ≡ 10 ∷ []
    after p = left ∙ after_writing o.back (rw o.cut at p)

    -- something else stands after the writing, or nothing
    pub line_other : (n < length l → get_or l n 0 ≡ 10 → ⊥) → (Line G l → ⊥) × Column (Line G) l (n + 1)
    line_other no' =
        let other : (b : ℕ) (q : List ℕ) → drop n l ≡ b ∷ q → b ≡ 10 → ⊥ = λ b q e z. no' (byte_at l n b q e).0 ((byte_at l n b q e).1 ∙ z) in (
          λ p. other 10 [] (after p) refl,
          column_cut (Line G) l o.front o.back n o.cut o.long (10 ∷ [], (o.front, o.is, refl))
              (λ b q r e p. other b q (left ∙ e) (ap (λ z. get_or z 0 0) (after_writing (b ∷ r) p))),
        )

    module _ (within : n < length l) (line_end : get_or l n 0 ≡ 10) where
      -- something stands after the line end
      pub line_long : n + 1 < length l → (Line G l → ⊥) × Column (Line G) l (n + 2)
      line_long more =
          let tail = drop (n + 1) l in
          let cut : l ≡ (o.front ++ 10 ∷ []) ++ tail = o.cut ∙ ap (λ z. o.front ++ z) (sym left ∙ drop_byte l n 10 within line_end) ∙ sym (append_assoc o.front (10 ∷ []) tail) in
          let k : n + 1 + 1 ≡ n + 2 = omega arith in
          let c = column_cut (Line G) l (o.front ++ 10 ∷ []) tail (n + 1) cut (length_push o.front 10 ∙ ap (λ i. i + 1) o.long) ([], (o.front, o.is, append-nil (o.front ++ 10 ∷ [])))
          (λ b q r e p. omega (arith, ap length (after_writing (10 ∷ (b ∷ r)) (rw append_assoc at p)))) in
          (λ p. omega (arith, ap length (after p), length-drop n l), rw (← k) c)

      pub line_ok : length l ≤ n + 1 → Line G l
      line_ok few =
          let e : o.back ≡ 10 ∷ [] = sym left ∙ drop_byte l n 10 within line_end ∙ ap (λ z. 10 ∷ z) (drop_all (n + 1) l few) in
          (o.front, o.is, o.cut ∙ ap (λ z. o.front ++ z) e)
