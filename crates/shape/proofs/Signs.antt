-- Numbers with a sign: what the sign adds to the digits.
use Rattle.std.proofs.Common.{◌≡◌, ℕ, zero, suc, ◌+◌, ◌-◌, ◌<◌, ◌≤◌, true, List, [], ◌∷◌, ◌++◌, length, get_or, take, drop, set, ℤ, pos, negsuc, ◌-ℤ◌, nat_abs, sym, refl, ap, ◌∙◌, inl, inr, ⊎_elim, append-nil, arith, w32, SFits, to_z, of_z}
use lib.Signed.{lt_z}
use borrow.Rule.Slice.PartMut.{put_mid}
use Rattle.std.specs.Str.Parse.{digits_value}
use Rattle.std.proofs.lemmas.Int.{ints, to_z_pos, to_z-of_z}
use Rattle.std.proofs.lemmas.Bool.{ltb-true}
use Rattle.std.proofs.lemmas.List.{take_all, drop_all}
use Rattle.shape.specs.Decimal.{figures, digits, InRange, NumbersAreDigits}
use Rattle.shape.specs.Form.{Number, Unsigned}
use Rattle.shape.specs.Limits.{most_digits, bound}
use Rattle.shape.proofs.Figures.{figures_unsigned, figures_first, figures_one, unsigned_value, same_figures, length_figures}

-- the numbers of lines are just the digits of the values in range
pub digits_number : (z : ℤ) → InRange z → Number (digits z)
digits_number (pos n) h = inl (figures_unsigned n h)
digits_number (negsuc n) h = inr (figures (suc n), figures_unsigned (suc n) h, (λ e. omega (arith, figures_first (suc n) (omega arith) (omega arith))), refl)

-- a number below 0 by its size
pub below_zero : (n : ℕ) → 0 < n → n < bound → InRange (negsuc (n - 1)) × (45 ∷ figures n ≡ digits (negsuc (n - 1)))
below_zero n z h =
    let k : suc (n - 1) ≡ n = omega arith in
    (omega arith, ap (λ m. 45 ∷ figures m) (sym k))

-- digits that do not begin with a zero are not those of 0
pub not_zero : (t : List ℕ) (n : ℕ) → t ≡ figures n → (get_or t 0 0 ≡ 48 → ⊥) → 0 < n
not_zero t zero e nz = absurd (nz (ap (λ x. get_or x 0 0) (e ∙ figures_one 0 (omega arith))))
not_zero t (suc n) e nz = omega arith

pub number_digits : (t : List ℕ) → Number t → (z : ℤ) × InRange z × (t ≡ digits z)
number_digits t h = ⊎_elim plain minus h
  where
    plain : Unsigned t → (z : ℤ) × InRange z × (t ≡ digits z)
    plain u = let v = unsigned_value t u in (pos (digits_value 10 t), v.0, v.1)

    minus : (u : List ℕ) × Unsigned u × (get_or u 0 0 ≡ 48 → ⊥) × (t ≡ 45 ∷ u) → (z : ℤ) × InRange z × (t ≡ digits z)
    minus p =
        let v = unsigned_value p.0 p.1 in
        let b = below_zero (digits_value 10 p.0) (not_zero p.0 _ v.1 p.2) v.0 in
        (negsuc (digits_value 10 p.0 - 1), b.0, p.3 ∙ ap (λ x. 45 ∷ x) v.1 ∙ b.1)

pub numbers_are_digits : NumbersAreDigits
numbers_are_digits t = (number_digits t, λ z h e. rw e (digits_number z h))

-- digits have one value
mixed : (m n : ℕ) → m < bound → figures m ≡ 45 ∷ figures n → ⊥
mixed m n h e = first (figures m) (figures_unsigned m h) (ap (λ x. get_or x 0 0) e)
  where
    first : (t : List ℕ) → Unsigned t → get_or t 0 0 ≡ 45 → ⊥
    first [] u z = omega (arith, u.0)
    first (x ∷ t) u z = omega (arith, u.2.0)

pub same_digits : (y z : ℤ) → InRange y → InRange z → digits y ≡ digits z → y ≡ z
same_digits (pos m) (pos n) h k e = ap pos (same_figures m n (omega arith) (omega arith) e)
same_digits (pos m) (negsuc n) h k e = absurd (mixed m (suc n) h e)
same_digits (negsuc m) (pos n) h k e = absurd (mixed n (suc m) k (sym e))
same_digits (negsuc m) (negsuc n) h k e =
    let r : suc m ≡ suc n = same_figures (suc m) (suc n) (omega arith) (omega arith) (ap (λ x. drop 1 x) e) in
    ap negsuc (omega arith)

pub length_digits : (z : ℤ) → InRange z → length (digits z) ≤ most_digits + 1
length_digits (pos n) h = omega (arith, length_figures most_digits n (omega arith) h (omega arith))
length_digits (negsuc n) h = omega (arith, length_figures most_digits (suc n) (omega arith) h (omega arith))

-- by the sign, as the writer finds it
pub digits_below : (z : ℤ) (m : ℕ) → lt_z z (pos 0) ≡ true → m ≡ nat_abs z → digits z ≡ 45 ∷ figures m
digits_below (pos n) m h e = absurd (omega (arith, ltb-true n 0 h))
digits_below (negsuc n) m h e = ap (λ k. 45 ∷ figures k) (sym e)

-- a minus, and digits in the part after it
pub put_below : (out last w : List ℕ) (k : ℕ) → 0 < length out → k ≡ length out - 1 → last ≡ w ++ drop (length w) (take k (drop 1 (set out 0 45))) → put_mid 1 k (set out 0 45) last ≡ (45 ∷ w) ++ drop (suc (length w)) out
put_below [] last w k h e is = absurd (omega arith)
put_below (x ∷ xs) last w k h e is =
    let n : k ≡ length xs = omega arith in
    let t : take k xs ≡ xs = take_all k xs (omega arith) in
    let d : drop k xs ≡ [] = drop_all k xs (omega arith) in
    ap (λ ys. 45 ∷ (last ++ ys)) d ∙ ap (λ ys. 45 ∷ ys) (append-nil last ∙ is ∙ ap (λ ys. w ++ drop (length w) ys) t)

-- a value in range is a 32-bit number
pub in_range_fits : (z : ℤ) → InRange z → SFits w32 z
in_range_fits (pos n) h = record { sfits = omega arith }
in_range_fits (negsuc n) h = record { sfits = omega arith }

pub in_range_kept : (z : ℤ) → InRange z → to_z w32 (of_z w32 z) ≡ z
in_range_kept z h = to_z-of_z w32 z (in_range_fits z h)

-- the machine's value of a size and of its negative
pub same_size : (n : ℕ) → n < bound → to_z w32 n ≡ pos n
same_size n h = to_z_pos w32 n (omega arith)

pub negated : (n : ℕ) → 0 < n → n < bound → to_z w32 (of_z w32 (pos 0 -ℤ to_z w32 n)) ≡ negsuc (n - 1)
negated zero nz h = absurd (omega arith)
negated (suc k) nz h =
    let d : suc k - 1 ≡ k = omega arith in
    let m : pos 0 -ℤ pos (suc k) ≡ negsuc k = omega (arith, ints) in
    ap (λ y. to_z w32 (of_z w32 (pos 0 -ℤ y))) (same_size (suc k) h) ∙ ap (λ y. to_z w32 (of_z w32 y)) m ∙ in_range_kept (negsuc k) h ∙ ap negsuc (sym d)
