-- The digits of a natural number: what the readers and the writers of numbers need of them.
use Rattle.std.proofs.Common.{◌≡◌, ℕ, zero, suc, ◌+◌, ◌-◌, ◌*◌, ◌/◌, ◌%◌, ◌^◌, ◌<◌, ◌≤◌, List, [], ◌∷◌, ◌++◌, length, get_or, take, drop, set, decimal, Option, Some, None, sym, ap, ◌∙◌, inl, inr, ⊎_elim, append_assoc, arith, rules}
use Rattle.std.specs.Str.Parse.{AllDigits, digits_value}
use Rattle.std.specs.Char.{digit_value as digitValue}
use Rattle.std.specs.List.{AllByRecursion}
use Rattle.std.proofs.lemmas.Int.Digits.{digits_value_more}
use Rattle.std.proofs.lemmas.List.{take_all, length-take, length_push, length-set, drop-set}
use Rattle.std.proofs.lemmas.Bool.Decides.{nat_tests}
use Rattle.std.proofs.lemmas.Str.Parse.{IsNumeralModel, numerals_by_value, tells_digits, digit_from_value, digits_value_short}
use Rattle.std.proofs.lemmas.Fmt.{decimal_from_appends, AppendsLastDigit, length-decimal-le, decimal_nonempty, first_decimal, digits_decimal, decimal-digits_value, decimal_injective, decimal_digit, decimal_step}
use Rattle.std.proofs.lemmas.Bool.{cases_eq, cases_lt}
use Rattle.std.proofs.ByRecursion.{All-take, All-get_or}
use Rattle.shape.specs.Decimal.{spelled, figures, WritesFigures}
use Rattle.shape.specs.Form.{Digit, Unsigned}
use Rattle.shape.specs.Limits.{most_digits, bound}

own : IsNumeralModel (AllDigits 10) (digits_value 10)
own = numerals_by_value (AllDigits 10) tells_digits

spells : AppendsLastDigit spelled
spells = search rules

-- the library's own digits
pub figures_are : (n : ℕ) → n < 2 ^ 64 → figures n ≡ decimal n
unfolding figures
figures_are n h = decimal_from_appends spelled spells 20 n h (length-decimal-le 20 n (omega arith) (omega arith) h)

pub same_figures : (m n : ℕ) → m < 2 ^ 64 → n < 2 ^ 64 → figures m ≡ figures n → m ≡ n
same_figures m n h k e = decimal_injective m n h k (sym (figures_are m h) ∙ e ∙ figures_are n k)

-- digit after digit
pub figures_one : (n : ℕ) → n < 10 → figures n ≡ (48 + n) ∷ []
figures_one n h = figures_are n (omega arith) ∙ decimal_digit n h

pub figures_more : (n : ℕ) → 10 ≤ n → n < 2 ^ 64 → figures n ≡ figures (n / 10) ++ ((48 + n % 10) ∷ [])
figures_more n l h =
    let q : n / 10 < 2 ^ 64 = omega arith in
    figures_are n h ∙ decimal_step n l h ∙ ap (λ x. x ++ ((48 + n % 10) ∷ [])) (sym (figures_are (n / 10) q))

pub length_more : (n : ℕ) → 10 ≤ n → n < 2 ^ 64 → length (figures n) ≡ length (figures (n / 10)) + 1
length_more n l h = ap length (figures_more n l h) ∙ length_push (figures (n / 10)) (48 + n % 10)

pub length_one : (n : ℕ) → n < 10 → length (figures n) ≡ 1
length_one n h = ap length (figures_one n h)

-- one more than the logarithm, rounded down
pub count_by_log : (k n : ℕ) → 10 ^ k ≤ n → n < 10 * 10 ^ k → n < 2 ^ 64 → length (figures n) ≡ k + 1
count_by_log zero n l h m = length_one n (omega arith)
count_by_log (suc k) n l h m =
    let q : n / 10 < 2 ^ 64 = omega arith in
    omega (arith, length_more n (omega arith) m, count_by_log k (n / 10) (omega arith) (omega arith) q)

pub length_figures : (k n : ℕ) → 0 < k → n < 10 ^ k → n < 2 ^ 64 → length (figures n) ≤ k
length_figures k n z h l = omega (arith, ap length (figures_are n l), length-decimal-le k n z h l)

pub figures_first : (n : ℕ) → 0 < n → n < 2 ^ 64 → 48 < get_or (figures n) 0 0
figures_first n z h = rw (figures_are n h) (first_decimal n z h)

-- a number of lines
all_from : (t : List ℕ) → AllDigits 10 t → AllByRecursion Digit t
all_from [] d = tt
all_from (x ∷ t) d = (digit_from_value x d.0, all_from t d.1)

digit_value : (c : ℕ) → Digit c → digitValue c ≡ c - 48
digit_value c h = grind (arith, nat_tests)

pub from_all : (t : List ℕ) → AllByRecursion Digit t → AllDigits 10 t
from_all [] a = tt
from_all (x ∷ t) a = (omega (arith, digit_value x a.0), from_all t a.1)

pub figures_unsigned : (n : ℕ) → n < bound → Unsigned (figures n)
figures_unsigned n h =
    let l : n < 2 ^ 64 = omega arith in
    rw (figures_are n l) (
      decimal_nonempty n l,
      length-decimal-le most_digits n (omega arith) h l,
      all_from _ (digits_decimal own n l),
      λ e. elim (cases_eq n 0) [
        | inl p ↦ rw p (ap length (decimal_digit 0 (omega arith)))
        | inr p ↦ absurd (omega (arith, first_decimal n (omega arith) l))
      ],
    )

-- the text's value, and that its digits are that text
pub unsigned_value : (t : List ℕ) → Unsigned t → (digits_value 10 t < bound) × (t ≡ figures (digits_value 10 t))
unsigned_value t u =
    let d = from_all t u.2 in
    let v : digits_value 10 t < bound = digits_value_short own t most_digits d u.1 in
    let l : digits_value 10 t < 2 ^ 64 = omega arith in
    (v, sym (figures_are (digits_value 10 t) l ∙ decimal-digits_value own t d u.0 u.3 l))

-- the reader's steps
pub front_value : (t : List ℕ) (i n : ℕ) → Unsigned t → i < length t → n ≡ digits_value 10 (take i t) → n < bound
front_value t i n u l e = omega (arith, digits_value_short own (take i t) most_digits (from_all _ (All-take Digit i t u.2)) (omega (arith, length-take i t, u.1)))

pub next_value : (t : List ℕ) (i n : ℕ) → Unsigned t → i < length t → n ≡ digits_value 10 (take i t) → n * 10 + (get_or t i 0 - 48) ≡ digits_value 10 (take (i + 1) t)
next_value t i n u l e =
    let d = digit_value (get_or t i 0) (All-get_or Digit t i 0 l u.2) in
    ap (λ m. m * 10 + (get_or t i 0 - 48)) e ∙ ap (λ x. digits_value 10 (take i t) * 10 + x) (sym d) ∙ sym (digits_value_more 10 t i l)

pub whole_value : (t : List ℕ) (i n : ℕ) → Unsigned t → length t ≤ i → n ≡ digits_value 10 (take i t) → (n < bound) × (t ≡ figures n)
whole_value t i n u l e =
    let v : n ≡ digits_value 10 t = e ∙ ap (digits_value 10) (take_all i t l) in
    rw v (unsigned_value t u)

-- The writer's steps, from the last place to the first: `rest` has the figures of the first `place` bytes, and with them `out` is `final`.
abbrev pub Remains : (final out : List ℕ) → (rest place : ℕ) → Type 0
Remains final out rest place = (rest < 2 ^ 32) × (place ≤ length out) × (0 < place → (place ≡ length (figures rest)) × (figures rest ++ drop place out ≡ final)) × (place ≡ 0 → out ≡ final)

pub length_some : (n : ℕ) → n < 2 ^ 64 → 0 < length (figures n)
length_some n h = rw (figures_are n h) (decimal_nonempty n h)

pub next_place : (final out : List ℕ) (rest place : ℕ) → 0 < place → Remains final out rest place → Remains final (set out (place - 1) (48 + rest % 10)) (rest / 10) (place - 1)
next_place final out rest place z r =
    let x = 48 + rest % 10 in
    let small : rest < 2 ^ 64 = omega (arith, r.0) in
    let smaller : rest / 10 < 2 ^ 64 = omega (arith, r.0) in
    let is = r.2 z in
    let lt : place - 1 < length out = omega (arith, r.1) in
    let k : place - 1 + 1 ≡ place = omega arith in
    let put : drop (place - 1) (set out (place - 1) x) ≡ x ∷ drop place out = drop-set out (place - 1) x lt ∙ ap (λ i. x ∷ drop i out) k in
    let more : 0 < place - 1 → 10 ≤ rest = λ h. ⊎_elim (λ (d : rest < 10). absurd (omega (arith, is.0, length_one rest d))) (λ (d : 10 ≤ rest). d) (cases_lt rest 10) in
    let last : place - 1 ≡ 0 → rest < 10 = λ h. ⊎_elim (λ (d : rest < 10). d) (λ (d : 10 ≤ rest). absurd (omega (arith, is.0, length_more rest d small, length_some (rest / 10) smaller))) (cases_lt rest 10) in (
      omega (arith, r.0),
      simp length-set (omega (arith, r.1)),
      (λ h.
          let d = more h in
          let e : figures (rest / 10) ++ (x ∷ drop place out) ≡ figures rest ++ drop place out = sym (append_assoc (figures (rest / 10)) (x ∷ []) (drop place out)) ∙ ap (λ y. y ++ drop place out) (sym (figures_more rest d small)) in
          (omega (arith, is.0, length_more rest d small), ap (λ y. figures (rest / 10) ++ y) put ∙ e ∙ is.1)),
      λ h.
          let d = last h in
          let e : drop (place - 1) (set out (place - 1) x) ≡ set out (place - 1) x = ap (λ i. drop i (set out (place - 1) x)) h in
          let f : x ∷ [] ≡ figures rest = ap (λ y. (48 + y) ∷ []) (omega arith) ∙ sym (figures_one rest d) in
          sym e ∙ put ∙ ap (λ y. y ++ drop place out) f ∙ is.1,
    )

-- where there is room, the figures are written
pub written_where_room : (n : ℕ) (before after : List ℕ) (o : Option ℕ) → length (figures n) ≤ length before → WritesFigures n before after o → after ≡ figures n ++ drop (length (figures n)) before
written_where_room n before after (Some k) room w = rw (← w.0) w.2
written_where_room n before after None room w = absurd (omega (arith, w.0))
