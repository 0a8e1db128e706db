-- The numbers of a line that a pattern and values make are those values.
use Rattle.std.proofs.Common.{◌≡◌, ℕ, suc, ◌<◌, Bool, true, false, cond, ◌&&◌, eqb, List, [], ◌∷◌, ◌++◌, length, get_or, ℤ, pos, negsuc, Some, None, Option, sym, refl, ap, ◌∙◌, ⊎_elim, append_assoc, arith}
use Rattle.std.specs.Str.Parse.{digits_value}
use Rattle.std.specs.List.{AllByRecursion}
use Rattle.std.specs.Str.{bytes_eq}
use Rattle.std.proofs.ByRecursion.{All-weaker}
use Rattle.std.proofs.lemmas.Slice.Eq.{bytes_eq-Decides}
use Rattle.std.proofs.lemmas.List.{append-nil}
use Rattle.std.proofs.lemmas.Bool.{cond-true, cond-false, ne_eqb, and_parts, and_from, eqb-true, cases_eq, false≢true}
use Rattle.shape.specs.Decimal.{digits, figures, InRange}
use Rattle.shape.specs.Form.{Digit, Unsigned}
use Rattle.shape.specs.Limits.{bound}
use Rattle.shape.proofs.Figures.{figures_unsigned, unsigned_value, same_figures}
use Rattle.patterns.specs.declared.Range.{Range}
use Rattle.patterns.specs.Finding.{minus, signed, add_number, numbers_from, numbers, having}
use Rattle.patterns.specs.Pattern.{spelt, within, in_ranges, figure, fitting}
use Rattle.patterns.proofs.Spell.{spelt_number, spelt_byte, within_in_range}
use Rattle.patterns.proofs.Found.{fitting_number, fitting_byte, digit_figure}

value_figures : (n : ℕ) → n < bound → digits_value 10 (figures n) ≡ n
value_figures n h = let v = unsigned_value (figures n) (figures_unsigned n h) in sym (same_figures n (digits_value 10 (figures n)) (omega arith) (omega (arith, v.0)) v.1)

plain_value : (t : List ℕ) → Unsigned t → signed t ≡ pos (digits_value 10 t)
plain_value [] u = absurd (omega (arith, u.0))
plain_value (b ∷ t) u = cond-false (eqb b 45) _ _ (ne_eqb b 45 (λ e. omega (arith, u.2.0)))

signed_digits : (z : ℤ) → InRange z → signed (digits z) ≡ z
signed_digits (pos n) h = plain_value (figures n) (figures_unsigned n h) ∙ ap pos (value_figures n h)
signed_digits (negsuc n) h = ap minus (value_figures (suc n) h)

some_number : (t : List ℕ) (vs : List ℤ) → 0 < length t → add_number t vs ≡ signed t ∷ vs
some_number [] vs h = absurd (omega arith)
some_number (b ∷ t) vs h = refl

add_digits : (z : ℤ) (vs : List ℤ) → InRange z → add_number (digits z) vs ≡ z ∷ vs
add_digits z vs h = some_number (digits z) vs (some z h) ∙ ap (λ y. y ∷ vs) (signed_digits z h)
  where
    some : (z : ℤ) → InRange z → 0 < length (digits z)
    some (pos n) h = (figures_unsigned n h).0
    some (negsuc n) h = omega arith

abbrev AllFigures : List ℕ → Type 0
AllFigures t = AllByRecursion (λ b. figure b ≡ true) t

digits_figures : (z : ℤ) → InRange z → AllFigures (digits z)
digits_figures (pos n) h = All-weaker Digit (λ b. figure b ≡ true) digit_figure (figures n) (figures_unsigned n h).2
digits_figures (negsuc n) h = (refl, All-weaker Digit (λ b. figure b ≡ true) digit_figure (figures (suc n)) (figures_unsigned (suc n) h).2)

numbers_run : (run t l : List ℕ) → AllFigures t → numbers_from run (t ++ l) ≡ numbers_from (run ++ t) l
numbers_run run [] l a = ap (λ z. numbers_from z l) (sym (append-nil run))
numbers_run run (b ∷ t) l a = cond-true (figure b) _ _ a.0 ∙ numbers_run (run ++ b ∷ []) t l a.1 ∙ ap (λ z. numbers_from z l) (append_assoc run (b ∷ []) t)

-- a number ends where a pattern goes on with another byte
after_run : (run p : List ℕ) (rs : List Range) (vs : List ℤ) → (get_or p 0 0 ≡ 35 → ⊥) → fitting p rs ≡ true → numbers_from run (spelt p vs) ≡ add_number run (numbers (spelt p vs))
unfolding numbers
after_run run [] rs vs e f = refl
after_run run (b ∷ p) rs vs e f =
    let no' = (fitting_byte b p rs e f).0 in
    ap (numbers_from run) (spelt_byte b p vs e) ∙ cond-false (figure b) _ _ no' ∙ ap (add_number run) (sym (ap numbers (spelt_byte b p vs e) ∙ cond-false (figure b) _ _ no'))

abbrev FoundAgain : List ℕ → Type 0
FoundAgain p = (qs : List Range) (ws : List ℤ) → fitting p qs ≡ true → in_ranges qs ws ≡ true → numbers (spelt p ws) ≡ ws

pub numbers_spelt : (p : List ℕ) (rs : List Range) (vs : List ℤ) → fitting p rs ≡ true → in_ranges rs vs ≡ true → numbers (spelt p vs) ≡ vs
unfolding numbers
numbers_spelt [] [] [] f h = refl
numbers_spelt [] [] (v ∷ vs) f h = absurd (false≢true h)
numbers_spelt [] (r ∷ rs) vs f h = absurd (omega (arith, eqb-true (length (r ∷ rs)) 0 f))
numbers_spelt (b ∷ p) rs vs f h = ⊎_elim (number (λ qs ws g k. numbers_spelt p qs ws g k) rs vs f h) (byte (λ qs ws g k. numbers_spelt p qs ws g k)) (cases_eq b 35)
  where
    byte : FoundAgain p → (b ≡ 35 → ⊥) → numbers (spelt (b ∷ p) vs) ≡ vs
    byte after e = let g = fitting_byte b p rs e f in ap numbers (spelt_byte b p vs e) ∙ cond-false (figure b) _ _ g.0 ∙ after rs vs g.1 h

    number : FoundAgain p → (rs : List Range) (vs : List ℤ) → fitting (b ∷ p) rs ≡ true → in_ranges rs vs ≡ true → b ≡ 35 → numbers (spelt (b ∷ p) vs) ≡ vs
    number after [] vs f h e = absurd (omega (arith, (fitting_number b p [] e f).0))
    number after (r ∷ rs) [] f h e = absurd (false≢true h)
    number after (r ∷ rs) (v ∷ vs) f h e =
        let g = fitting_number b p (r ∷ rs) e f in
        let q = and_parts (within r v) (in_ranges rs vs) h in
        let k = within_in_range r v q.0 in
        ap numbers (spelt_number b p (v ∷ vs) e) ∙ numbers_run [] (digits v) (spelt p vs) (digits_figures v k) ∙ after_run (digits v) p rs vs g.1 g.2 ∙ ap (add_number (digits v)) (after rs vs g.2 q.1) ∙ add_digits v vs k

-- Finding the item that has a line.
module _ {X : Type 0} (lawful : X → Bool) (line : X → List ℕ) where
  pub having_found : (guess : Option X) (x : X) → lawful x ≡ true → guess ≡ Some x → having lawful line (line x) guess ≡ Some x
  having_found guess x h e = ap (having lawful line (line x)) e ∙ cond-true (lawful x && bytes_eq (line x) (line x)) _ _ (and_from (lawful x) (bytes_eq (line x) (line x)) h ((bytes_eq-Decides (line x) (line x)).1 refl))

  pub having_sound : (l : List ℕ) (guess : Option X) (x : X) → having lawful line l guess ≡ Some x → (lawful x ≡ true) × (line x ≡ l)
  having_sound l None x e = absurd (let n : ◌≡◌ {A = ℕ} 0 1 = cc in omega arith)
  having_sound l (Some y) x e = by (lawful y && bytes_eq (line y) l) refl e
    where
      by : (b : Bool) → (lawful y && bytes_eq (line y) l) ≡ b → cond b (Some y) None ≡ Some x → (lawful x ≡ true) × (line x ≡ l)
      by false t e = absurd (let n : ◌≡◌ {A = ℕ} 0 1 = cc in omega arith)
      by true t e =
          let z : y ≡ x = cc in
          let q = and_parts (lawful y) (bytes_eq (line y) l) t in
          (ap lawful (sym z) ∙ q.0, ap line (sym z) ∙ (bytes_eq-Decides (line y) l).0 q.1)

  -- What a reader of lines answers: the item that was found is the one, and none where no lawful item has the line.
  pub found_answer : (reading : List ℕ → Option X) → ((x : X) → lawful x ≡ true → reading (line x) ≡ Some x) → (l : List ℕ) (x : X) → lawful x ≡ true → line x ≡ l → Some x ≡ reading l
  found_answer reading found l x h e = sym (found x h) ∙ ap reading e

  pub none_answer : (reading : List ℕ → Option X) → ((l : List ℕ) (x : X) → reading l ≡ Some x → (lawful x ≡ true) × (line x ≡ l)) → (l : List ℕ) → ((x : X) → lawful x ≡ true → line x ≡ l → ⊥) → None ≡ reading l
  none_answer reading sound l no' = by (reading l) refl
    where
      by : (o : Option X) → reading l ≡ o → None ≡ reading l
      by None e = sym e
      by (Some x) e = let s = sound l x e in absurd (no' x s.0 s.1)
