-- The number at the front of a text.
use Rattle.std.proofs.Common.{◌≡◌, ℕ, zero, suc, ◌-◌, ◌<◌, ◌≤◌, ◌⊎◌, List, [], ◌∷◌, ◌++◌, length, get_or, take, drop, ℤ, Option, Some, None, Ok, Err, Result, false, cond, ◌==◌, sym, refl, ap, ◌∙◌, subst, inl, inr, ⊎_elim, arith, length-append}
use Rattle.std.proofs.lemmas.Bool.{cases_order, cases_Bool, false≢true}
use Rattle.std.proofs.lemmas.Bool.Decides.{nat_tests}
use Rattle.std.specs.Result.{is_ok}
use Rattle.std.proofs.lemmas.List.{take_all, take_at, length-take-le, get_or-take, get_or-append-add}
use Rattle.std.proofs.ByRecursion.{All-get_or}
use Rattle.shape.specs.Decimal.{digits, InRange, LongestNumber, LeadsNumber, ReadsNumber}
use Rattle.shape.specs.declared.value.Leading.{Leading}
use Rattle.shape.specs.Form.{Digit, Number, Unsigned}
use Rattle.shape.specs.Token.{Token}
use Rattle.shape.proofs.Tokens.{all_front, munch_longest}
use Rattle.shape.proofs.Numbers.{no_text}
use Rattle.shape.proofs.Signs.{digits_number, same_digits}

-- the front part of a number is one, unless it is empty or a minus alone
unsigned_front : (d : ℕ) (p r : List ℕ) → Unsigned (d ∷ (p ++ r)) → Unsigned (d ∷ p)
unsigned_front d p r u =
    let l = length-append p r in
    (omega arith, omega (arith, u.1), (u.2.0, all_front Digit p r u.2.1), λ e. omega (arith, u.3 e))

begun : (p r : List ℕ) → Number (p ++ r) → (length p ≤ 1) ⊎ Number p
begun [] r g = inl (omega arith)
begun (b ∷ []) r g = inl (omega arith)
begun (b ∷ (d ∷ p)) r g =
    inr (⊎_elim (λ u. inl (unsigned_front b (d ∷ p) r u)) (λ q.
    let h : b ≡ 45 = cc in
    let e : d ∷ (p ++ r) ≡ q.0 = cc in
    inr (d ∷ p, unsigned_front d p r (subst (λ x. Unsigned x) (sym e) q.1), (λ z. q.2 (ap (λ x. get_or x 0 0) (sym e) ∙ z)), ap (λ x. x ∷ (d ∷ p)) h)) g)

pub none_leads : (s : List ℕ) (n : ℕ) → Token Number s (Err n) → LeadsNumber s None
none_leads s n t m fits g =
    ⊎_elim (λ e. t.1 (rw (← e) g)) (⊎_elim (λ (l : m < n). shorter l) (λ (l : n < m). munch_longest Number s n t.0 m l fits g)) (cases_order m n)
  where
    shorter : m < n → ⊥
    shorter l = ⊎_elim (λ few. no_text (let z : m ≡ 0 = omega (arith, length-take-le n s t.0.fits) in rw z at g)) t.1 (begun (take n s) t.0.begins.0 t.0.begins.1)

-- and so where its reader found none
pub no_number_leads : (s : List ℕ) (r : Result ℕ ℕ) → Token Number s r → false ≡ is_ok r → LeadsNumber s None
no_number_leads s (Ok n) t e = absurd (false≢true e)
no_number_leads s (Err n) t e = none_leads s n t

number_some : (t : List ℕ) → Number t → 0 < length t
number_some t g = ⊎_elim (λ u. u.0) (λ q. omega (arith, ap length q.3)) g

take_first : (s : List ℕ) (n : ℕ) → 0 < n → 0 < length s → take n s ≡ get_or s 0 0 ∷ take (n - 1) (drop 1 s)
take_first [] n z l = absurd (omega arith)
take_first (x ∷ s) zero z l = absurd (omega arith)
take_first (x ∷ s) (suc n) z l = let e : suc n - 1 ≡ n = omega arith in ap (λ m. x ∷ take m s) (sym e)

-- the digits that the reader finds after a minus
module _ (s : List ℕ) (n : ℕ) (t : Token Number s (Ok n)) where
  some_bytes : (0 < n) × (n ≤ length s)
  some_bytes = (omega (arith, number_some (take n s) t.1, length-take-le n s t.0.fits), t.0.fits)

  first : get_or (take n s) 0 0 ≡ get_or s 0 0
  first = get_or-take n s 0 0 some_bytes.0

  pub minus_part : get_or s 0 0 ≡ 45 → Unsigned (take (n - 1) (drop 1 s)) × (get_or (take (n - 1) (drop 1 s)) 0 0 ≡ 48 → ⊥) × (take n s ≡ 45 ∷ take (n - 1) (drop 1 s))
  minus_part e =
      let cut : take n s ≡ 45 ∷ take (n - 1) (drop 1 s) = take_first s n some_bytes.0 (omega (arith, some_bytes)) ∙ ap (λ x. x ∷ take (n - 1) (drop 1 s)) e in
      ⊎_elim (λ u. absurd (omega (arith, All-get_or Digit (take n s) 0 0 u.0 u.2, first))) (λ q.
      let w : q.0 ≡ take (n - 1) (drop 1 s) = ap (λ x. drop 1 x) (sym q.3 ∙ cut) in
      (subst (λ x. Unsigned x) w q.1, (λ z. q.2 (ap (λ x. get_or x 0 0) w ∙ z)), cut)) t.1

  pub leads : (z : ℤ) → InRange z → take n s ≡ digits z → LongestNumber s z n
  leads z h e = record { fits = t.0.fits; in_range = h; is = e; longest = munch_longest Number s n t.0 }

-- The reader of a whole text takes the number at its front.
pub whole_is : (s : List ℕ) (z : ℤ) (n : ℕ) → LongestNumber s z n → n ≡ length s → ReadsNumber s (Some z)
whole_is s z n o e = (o.in_range, sym (take_all n s (omega arith)) ∙ o.is)

pub whole_other : (s : List ℕ) (z : ℤ) (n : ℕ) → LongestNumber s z n → (n ≡ length s → ⊥) → ReadsNumber s None
whole_other s z n o other y h e = o.longest (length s) (omega (arith, o.fits)) (omega arith) (rw (take_all (length s) s (omega arith), e) (digits_number y h))

pub whole_none : (s : List ℕ) → LeadsNumber s None → ReadsNumber s None
whole_none s o y h e = o (length s) (omega arith) (rw (take_all (length s) s (omega arith), e) (digits_number y h))

-- what the reader of a whole text makes of the number at its front
abbrev pub whole : List ℕ → Option (Leading ℤ) → Option ℤ
whole s None = None
whole s (Some x) = cond (x.len == length s) (Some x.value) None

pub whole_reads : (s : List ℕ) (o : Option (Leading ℤ)) → LeadsNumber s o → ReadsNumber s (whole s o)
whole_reads s None o = whole_none s o
whole_reads s (Some x) o = elim (cases_Bool (x.len == length s)) [
  | inl e ↦ let n : x.len ≡ length s = grind (arith, nat_tests) in rw e (whole_is s x.value x.len o n)
  | inr e ↦ let n : x.len ≡ length s → ⊥ = λ h. grind (arith, nat_tests) in rw e (whole_other s x.value x.len o n)
]

-- after the first byte of a number there are only digits
number_digit : (t : List ℕ) (i : ℕ) → Number t → 0 < i → i < length t → Digit (get_or t i 0)
number_digit t zero g z l = absurd (omega arith)
number_digit t (suc i) g z l =
    ⊎_elim (λ u. All-get_or Digit t (suc i) 0 l u.2) (λ q. rw q.3 (All-get_or Digit q.0 i 0 (omega (arith, ap length q.3)) q.1.2)) g

-- Digits that no digit follows are read as their value, and all of them: what a reader of lines needs to find a value again.
module _ (s : List ℕ) (z : ℤ) (rest : List ℕ) (h : InRange z) (cut : s ≡ digits z ++ rest) (ends : Digit (get_or rest 0 0) → ⊥) where
  here : take (length (digits z)) s ≡ digits z
  here = rw cut (take_at (digits z) rest (length (digits z)) refl)

  within : length (digits z) ≤ length s
  within = omega (arith, ap length cut, length-append (digits z) rest)

  is_number : Number (take (length (digits z)) s)
  is_number = rw here (digits_number z h)

  not_longer : (n : ℕ) → length (digits z) < n → n ≤ length s → Number (take n s) → ⊥
  not_longer n l fits g =
      let some : 0 < length (digits z) = number_some (digits z) (digits_number z h) in
      let byte : get_or (take n s) (length (digits z)) 0 ≡ get_or rest 0 0 = get_or-take n s (length (digits z)) 0 l ∙ ap (λ x. get_or x (length (digits z)) 0) cut ∙ (ap (λ i. get_or (digits z ++ rest) i 0) (omega arith) ∙ get_or-append-add (digits z) rest 0 0) in
      ends (subst (λ x. Digit x) byte (number_digit (take n s) (length (digits z)) g some (omega (arith, length-take-le n s fits))))

  pub leading_found : (y : ℤ) (n : ℕ) → LongestNumber s y n → (n ≡ length (digits z)) × (y ≡ z)
  leading_found y n o =
      let e : n ≡ length (digits z) = ⊎_elim (λ e. e) (⊎_elim (λ (l : n < length (digits z)). absurd (o.longest (length (digits z)) l within is_number)) (λ (l : length (digits z) < n). absurd (not_longer n l o.fits (rw o.is (digits_number y o.in_range))))) (cases_order n (length (digits z))) in
      (e, same_digits y z o.in_range h (sym o.is ∙ ap (λ m. take m s) e ∙ here))

  pub leading_some : LeadsNumber s None → ⊥
  leading_some o = o (length (digits z)) within is_number
