-- Values between two: their digits as tokens.
use Rattle.std.proofs.Common.{◌≡◌, ℕ, ◌+◌, ◌-◌, ◌*◌, ◌^◌, ◌<◌, ◌≤◌, List, [], ◌∷◌, ◌++◌, length, get_or, take, Ok, Err, sym, refl, ap, ◌∙◌, ⊎_elim, arith}
use Rattle.std.specs.Str.Parse.{AllDigits, digits_value, digits_value_after}
use Rattle.std.specs.Char.{digit_value}
use Rattle.std.specs.List.{AllByRecursion}
use Rattle.std.proofs.lemmas.Int.Digits.{digits_value_more}
use Rattle.std.proofs.lemmas.List.{append-nil, length-take-le, take_more, get_or-take}
use Rattle.std.proofs.lemmas.Str.Parse.{IsNumeralModel, numerals_by_value, tells_digits, digit_from_value}
use Rattle.std.proofs.lemmas.Fmt.{decimal_nonempty, digits_decimal, decimal-digits_value, digits_value-decimal}
use Rattle.std.proofs.lemmas.Bool.{cases_lt}
use Rattle.std.proofs.lemmas.Bool.Decides.{nat_tests}
use Rattle.shape.specs.Decimal.{figures}
use Rattle.shape.specs.Form.{Digit}
use Rattle.shape.specs.Token.{Munch, Token}
use Rattle.shape.proofs.Figures.{figures_are, figures_first, figures_one, from_all}
use Rattle.shape.proofs.Numbers.{grown_length, grown_first, grown_byte}
use Rattle.sealed.specs.Frame.{Value, Counts}

own : IsNumeralModel (AllDigits 10) (digits_value 10)
own = numerals_by_value (AllDigits 10) tells_digits

digit_value_is : (c : ℕ) → Digit c → digit_value c ≡ c - 48
digit_value_is c h = grind (arith, nat_tests)

all_from : (t : List ℕ) → AllDigits 10 t → AllByRecursion Digit t
all_from [] d = tt
all_from (x ∷ t) d = (digit_from_value x d.0, all_from t d.1)

-- digits without a leading zero are the figures of their value
pub figures_value : (t : List ℕ) → AllByRecursion Digit t → 0 < length t → (get_or t 0 0 ≡ 48 → length t ≡ 1) → digits_value 10 t < 2 ^ 64 → t ≡ figures (digits_value 10 t)
figures_value t a z lead h = sym (figures_are (digits_value 10 t) h ∙ decimal-digits_value own t (from_all t a) z lead h)

pub figures_digits : (n : ℕ) → n < 2 ^ 64 → AllByRecursion Digit (figures n)
figures_digits n h = rw (figures_are n h) (all_from _ (digits_decimal own n h))

pub figures_some : (n : ℕ) → n < 2 ^ 64 → 0 < length (figures n)
figures_some n h = rw (figures_are n h) (decimal_nonempty n h)

pub value_figures : (n : ℕ) → n < 2 ^ 64 → digits_value 10 (figures n) ≡ n
value_figures n h = rw (figures_are n h) (digits_value-decimal own n h)

-- more digits make no smaller value
after_grows : (acc : ℕ) (t : List ℕ) → acc ≤ digits_value_after 10 acc t
after_grows acc [] = omega arith
after_grows acc (x ∷ t) = omega (arith, after_grows (acc * 10 + digit_value x) t)

after_front : (acc : ℕ) (t r : List ℕ) → digits_value_after 10 acc t ≤ digits_value_after 10 acc (t ++ r)
after_front acc [] r = after_grows acc r
after_front acc (x ∷ t) r = after_front (acc * 10 + digit_value x) t r

value_front : (t r : List ℕ) → digits_value 10 t ≤ digits_value 10 (t ++ r)
value_front t r = after_front 0 t r

-- one digit more
pub value_next : (s : List ℕ) (n v : ℕ) → n < length s → Digit (get_or s n 0) → v ≡ digits_value 10 (take n s) → v * 10 + (get_or s n 0 - 48) ≡ digits_value 10 (take (n + 1) s)
value_next s n v l d e = ap (λ x. x * 10 + (get_or s n 0 - 48)) e ∙ ap (λ x. digits_value 10 (take n s) * 10 + x) (sym (digit_value_is (get_or s n 0) d)) ∙ sym (digits_value_more 10 s n l)

module _ (low high : ℕ) (small : low ≤ 1) (some : 1 ≤ high) (fits : high < 2 ^ 64) (s : List ℕ) where
  one_is : Value low high (49 ∷ [])
  one_is = (1, omega arith, omega arith, sym (figures_one 1 (omega arith)))

  -- a zero stands alone
  pub zero_token : low ≡ 0 → 0 < length s → get_or s 0 0 ≡ 48 → Token (Value low high) s (Ok 1)
  zero_token z l e =
      let t : take 1 s ≡ figures 0 = take_more s 0 0 l ∙ ap (λ x. x ∷ []) e ∙ sym (figures_one 0 (omega arith)) in
      let is : Value low high (take 1 s) = (0, omega arith, omega arith, t) in (
        record {
          fits = omega arith;
          begins = ([], rw append-nil is);
          stops = λ h f. zero_stops f.0 h f.1;
        },
        is,
      )
    where
      zero_stops : (rest : List ℕ) → 1 < length s → Value low high (take (1 + 1) s ++ rest) → ⊥
      zero_stops rest h x =
          let first : get_or (figures x.0) 0 0 ≡ 48 = ap (λ y. get_or y 0 0) (sym x.3) ∙ grown_first s 1 rest h ∙ e in
          let long : 2 ≤ length (figures x.0) = omega (arith, grown_length s 1 rest h, ap length x.3) in
          ⊎_elim (λ (q : x.0 < 1). let q₁ : x.0 ≡ 0 = omega arith in omega (arith, ap (λ y. length (figures y)) q₁, ap length (figures_one 0 (omega arith)))) (λ (q : 1 ≤ x.0). omega (arith, figures_first x.0 (omega arith) (omega (arith, x.2)))) (cases_lt x.0 1)

  -- where 0 is below the values, nothing begins with a zero
  pub zero_none : low ≡ 1 → 0 < length s → get_or s 0 0 ≡ 48 → Token (Value low high) s (Err 0)
  zero_none z l e = (
    record { fits = omega arith; begins = (49 ∷ [], one_is); stops = λ h f. let x = f.1 in omega (arith, figures_first x.0 (omega (arith, x.1)) (omega (arith, x.2)), ap (λ y. get_or y 0 0) (sym x.3) ∙ grown_first s 0 f.0 h ∙ e) },
    λ x. omega (arith, figures_some x.0 (omega (arith, x.2)), ap length x.3),
  )

  module _ (n v : ℕ) (run : Counts high s n v) (nz : 0 < length s → get_or s 0 0 ≡ 48 → ⊥) where
    long : length (take n s) ≡ n
    long = length-take-le n s run.fits

    -- no digit at all
    pub none_token : n ≡ 0 → Token (Value low high) s (Err 0)
    none_token z = (munch z, λ x. omega (arith, figures_some x.0 (omega (arith, x.2)), ap length x.3))
      where
        munch : n ≡ 0 → Munch (Value low high) s 0
        munch z = record {
          fits = omega arith;
          begins = (49 ∷ [], one_is);
          stops = λ l f.
              let x = f.1 in
              let d : Digit (get_or s 0 0) = grown_byte s 0 f.0 l Digit (rw x.3 (figures_digits x.0 (omega (arith, x.2)))) in
              let l₁ : n < length s = omega arith in
              let e : get_or s n 0 ≡ get_or s 0 0 = ap (λ i. get_or s i 0) z in
              let w : v ≡ 0 = run.is ∙ ap (λ i. digits_value 10 (take i s)) z in
              let d₁ : Digit (get_or s n 0) = rw e d in
              let q = value_next s 0 0 l d refl in
              omega (arith, run.stops l₁ d₁, q, value_front (take (0 + 1) s) f.0, ap (digits_value 10) x.3, value_figures x.0 (omega (arith, x.2)), x.2);
        }

    pub value_is : 0 < n → (take n s ≡ figures v) × (low ≤ v) × (v ≤ high)
    value_is z =
        let lead : get_or (take n s) 0 0 ≡ 48 → ⊥ = λ e. nz (omega (arith, run.fits)) (sym (get_or-take n s 0 0 z) ∙ e) in
        let h : digits_value 10 (take n s) < 2 ^ 64 = omega (arith, run.is, run.small) in
        let e : take n s ≡ figures (digits_value 10 (take n s)) = figures_value (take n s) run.all (omega (arith, long)) (λ e. absurd (lead e)) h in
        let f : take n s ≡ figures v = e ∙ ap figures (sym run.is) in
        (f, ⊎_elim (λ (q : v < 1). let q₁ : v ≡ 0 = omega arith in absurd (lead (ap (λ y. get_or y 0 0) (f ∙ ap figures q₁ ∙ figures_one 0 (omega arith))))) (λ (q : 1 ≤ v). omega arith) (cases_lt v 1), run.small)

    pub value_token : 0 < n → Token (Value low high) s (Ok n)
    value_token z =
        let r = value_is z in
        let is : Value low high (take n s) = (v, r.1, r.2, r.0) in (
          record {
            fits = run.fits;
            begins = ([], rw append-nil is);
            stops = λ l f.
                let x = f.1 in
                let d : Digit (get_or s n 0) = grown_byte s n f.0 l Digit (rw x.3 (figures_digits x.0 (omega (arith, x.2)))) in
                omega (arith, run.stops l d, value_next s n v l d run.is, value_front (take (n + 1) s) f.0, ap (digits_value 10) x.3, value_figures x.0 (omega (arith, x.2)), x.2);
          },
          is,
        )
