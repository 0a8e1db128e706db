-- Lines made of literals and tokens, one after the other.
use Rattle.std.proofs.Common.{◌≡◌, ℕ, ◌+◌, ◌<◌, ◌≤◌, List, ◌∷◌, ◌++◌, length, get_or, take, drop, Ok, Err, Result, sym, refl, ap, ◌∙◌, ap₂, append_assoc, arith}
use Rattle.std.specs.List.{AllByRecursion}
use Rattle.std.proofs.lemmas.List.{take-append-drop, length-take-le, append_cancel_left, drop_at, drop_more, length-drop, take_all, drop-drop}
use Rattle.shape.specs.Outcome.{Read, Fault, Outcome, shift, CarriesTo, Then, Is}
use Rattle.shape.specs.Token.{Token, Shares}
use Rattle.shape.proofs.Carry.{carry, shift_shift}
use Rattle.shape.proofs.Lines.{Apart}
use Rattle.shape.proofs.Tokens.{token_goes, token_fault, parts_agree, grown}

-- a fault in the first part
pub then_fault : (G H : List ℕ → Type 0) (s : List ℕ) (n : ℕ) (v : List ℕ) → H v → Fault G s n → Fault (Then G H) s n
then_fault G H s n v h o =
    record {
      front = o.front;
      back = o.back;
      cut = o.cut;
      long = o.long;
      more = o.more ++ v;
      can = (o.front ++ o.more, v, o.can, h, sym (append_assoc o.front o.more v));
      stuck = λ b q w k r e g i. o.stuck b q g.0 (g.1 ++ k) r e g.2 (sym (append_assoc g.0 g.1 k) ∙ ap (λ z. z ++ k) (sym g.4) ∙ i);
    }

-- a literal that was read
pub literal_goes : (p : List ℕ) (H : List ℕ → Type 0) (s : List ℕ) (n : ℕ) → Read (Is p) s n → CarriesTo (Then (Is p) H) H s n
literal_goes p H s n o r x =
    let left : drop n s ≡ o.back = rw o.cut (drop_at o.front o.back n o.long) in
    carry (Then (Is p) H) H s o.front o.back n o.cut o.long (λ w h. (o.front, w, o.is, h, refl))
    (λ w k y st g e. (g.1, k, g.3, append_cancel_left o.front (g.1 ++ k) y (sym (append_assoc o.front g.1 k) ∙ ap (λ z. (z ++ g.1) ++ k) (o.is ∙ sym g.2) ∙ ap (λ z. z ++ k) (sym g.4) ∙ e))) r (rw left at x)

-- what a literal and s share, up to n
pub literal_fault : (p s : List ℕ) (n : ℕ) → n ≤ length s → n < length p → take n s ≡ take n p → (n < length s → get_or s n 0 ≡ get_or p n 0 → ⊥) → Fault (Is p) s n
literal_fault p s n l m same other =
    record {
      front = take n s;
      back = drop n s;
      cut = sym (take-append-drop n s);
      long = length-take-le n s l;
      more = drop n p;
      can = rw same (take-append-drop n p);
      stuck = λ b q w k r e g i.
          let within : n < length s = omega (arith, ap length e, length-drop n s) in
          let h : b ≡ get_or s n 0 = ap (λ z. get_or z 0 0) (sym e ∙ drop_more s n 0 within) in
          let j : take n p ++ (drop n p ++ k) ≡ take n p ++ b ∷ r = sym (append_assoc (take n p) (drop n p) k) ∙ ap (λ z. z ++ k) (take-append-drop n p ∙ sym g) ∙ i ∙ ap (λ z. z ++ b ∷ r) same in
          let j₁ = append_cancel_left (take n p) (drop n p ++ k) (b ∷ r) j in
          let y : get_or p n 0 ≡ b = ap (λ z. get_or (z ++ k) 0 0) (sym (drop_more p n 0 m)) ∙ ap (λ z. get_or z 0 0) j₁ in
          other within (sym h ∙ sym y);
    }

pub literal_shared : (p s : List ℕ) (n : ℕ) → Shares p s n → n ≡ length p → Read (Is p) s n
literal_shared p s n h e =
    let same : take n s ≡ p = h.same ∙ take_all n p (omega arith) in
    record { front = take n s; back = drop n s; cut = sym (take-append-drop n s); long = length-take-le n s h.fits; is = same }

-- A literal, a token whose bytes are of the class C, and what follows, which begins with another byte.
module _ (C : ℕ → Type 0) (p : List ℕ) (T H : List ℕ → Type 0) (class : (t : List ℕ) → T t → AllByRecursion C t) (ends : (v : List ℕ) → H v → (0 < length v) × (C (get_or v 0 0) → ⊥)) where
  pub part_literal : (s : List ℕ) (n : ℕ) (t v : List ℕ) → T t → H v → Fault (Is p) s n → Fault (Then (Is p) (Then T H)) s n
  part_literal s n t v g h o = then_fault (Is p) (Then T H) s n (t ++ v) (t, v, g, h, refl) o

  module _ (s : List ℕ) (a n : ℕ) (o : Read (Is p) s a) where
    pub part_token : (v : List ℕ) → H v → Token T (drop a s) (Err n) → Fault (Then (Is p) (Then T H)) s (a + n)
    part_token v h m = literal_goes p (Then T H) s a o (Err n) (token_fault C T H class ends (drop a s) n m.0 m.1 v h)

    pub part_goes : Token T (drop a s) (Ok n) → (r : Result ℕ ℕ) → Outcome H (drop (a + n) s) r → Outcome (Then (Is p) (Then T H)) s (shift (a + n) r)
    part_goes m r x =
        let x₁ : Outcome H (drop n (drop a s)) r = rw (drop-drop n a s) x in
        rw (← shift_shift a n r) (literal_goes p (Then T H) s a o (shift n r) (token_goes C T H class ends (drop a s) n m.0 m.1 r x₁))

  pub part_apart : Apart H → Apart (Then (Is p) (Then T H))
  part_apart apart w w' k k' g g' e =
      let t = g.3 in
      let t' = g'.3 in
      let x : p ++ (t.0 ++ (t.1 ++ k)) ≡ p ++ (t'.0 ++ (t'.1 ++ k')) = sym (spelt w k g) ∙ e ∙ spelt w' k' g' in
      let y = append_cancel_left p (t.0 ++ (t.1 ++ k)) (t'.0 ++ (t'.1 ++ k')) x in
      let z = parts_agree C t.0 t'.0 (t.1 ++ k) (t'.1 ++ k') (class t.0 t.2) (class t'.0 t'.2) (first t.1 k t.3).1 (first t.1 k t.3).0 (first t'.1 k' t'.3).1 (first t'.1 k' t'.3).0 y in
      apart t.1 t'.1 k k' t.3 t'.3 z.1
    where
      spelt : (w k : List ℕ) (g : Then (Is p) (Then T H) w) → w ++ k ≡ p ++ (g.3.0 ++ (g.3.1 ++ k))
      spelt w k g = ap (λ z. z ++ k) (g.4 ∙ ap₂ ◌++◌ g.2 g.3.4) ∙ append_assoc p (g.3.0 ++ g.3.1) k ∙ ap (λ z. p ++ z) (append_assoc g.3.0 g.3.1 k)

      first : (v k : List ℕ) → H v → (0 < length (v ++ k)) × (C (get_or (v ++ k) 0 0) → ⊥)
      first v k h = grown C v k (ends v h)

pub is_apart : (p : List ℕ) → Apart (Is p)
is_apart p w w' k k' g g' e = append_cancel_left p k k' (ap (λ z. z ++ k) (sym g) ∙ e ∙ ap (λ z. z ++ k') g')
