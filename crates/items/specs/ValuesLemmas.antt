-- Values in ranges, one by one, and what a line with them needs.
use Rattle.std.specs.Prelude.{◌≡◌, ℕ, zero, suc, ◌+◌, ◌^◌, ◌<◌, ◌≤◌, Bool, true, ◌&&◌, T, ◌⊎◌, List, [], ◌∷◌, length, ℤ, pos, negsuc, int_le, nat_le, nat_lt, slice_index_or, unsigned_abs, refl}
use Rattle.std.proofs.Common.{sym, ap, ◌∙◌, inl, inr, arith, to_z, of_z, Fits}
use Rattle.std.specs.Int.Signed.{non_neg}
use Rattle.std.specs.Int.{w16, w32}
use Rattle.std.specs.List.{AllByRecursion}
use Rattle.std.proofs.lemmas.Bool.{and_parts, leb-true, false≢true}
use Rattle.shape.specs.Decimal.{digits, InRange}
use Rattle.shape.specs.Form.{Letter, Word}
use Rattle.shape.specs.Limits.{bound, most_letters}
use Rattle.shape.proofs.Figures.{length_figures}
use Rattle.shape.proofs.Signs.{in_range_kept}
use Rattle.std.proofs.ByRecursion.{All-get_or}
use Rattle.patterns.specs.declared.Range.{Range}
use Rattle.patterns.specs.Pattern.{within, in_ranges}
use Rattle.patterns.proofs.Spell.{within_in_range, in_ranges_all}

-- the first value and the others
pub value_first : (r : Range) (rs : List Range) (v : ℤ) (vs : List ℤ) → in_ranges (r ∷ rs) (v ∷ vs) ≡ true → (within r v ≡ true) × (in_ranges rs vs ≡ true)
value_first r rs v vs h = and_parts (within r v) (in_ranges rs vs) h

-- lists by their length
pub one_value : (vs : List ℤ) → length vs ≡ 1 → vs ≡ slice_index_or vs 0 (pos 0) ∷ []
one_value [] e = absurd (omega arith)
one_value (a ∷ []) e = refl
one_value (a ∷ b ∷ vs) e = absurd (omega arith)

pub two_values : (vs : List ℤ) → length vs ≡ 2 → vs ≡ slice_index_or vs 0 (pos 0) ∷ slice_index_or vs 1 (pos 0) ∷ []
two_values [] e = absurd (omega arith)
two_values (a ∷ []) e = absurd (omega arith)
two_values (a ∷ b ∷ []) e = refl
two_values (a ∷ b ∷ c ∷ vs) e = absurd (omega arith)

pub four_values : (vs : List ℤ) → length vs ≡ 4 → vs ≡ slice_index_or vs 0 (pos 0) ∷ slice_index_or vs 1 (pos 0) ∷ slice_index_or vs 2 (pos 0) ∷ slice_index_or vs 3 (pos 0) ∷ []
four_values [] e = absurd (omega arith)
four_values (a ∷ []) e = absurd (omega arith)
four_values (a ∷ b ∷ []) e = absurd (omega arith)
four_values (a ∷ b ∷ c ∷ []) e = absurd (omega arith)
four_values (a ∷ b ∷ c ∷ d ∷ []) e = refl
four_values (a ∷ b ∷ c ∷ d ∷ x ∷ vs) e = absurd (omega arith)

pub range_count : (rs : List Range) (vs : List ℤ) → in_ranges rs vs ≡ true → length vs ≡ length rs
range_count rs vs h = sym (in_ranges_all rs vs h).1

-- a value in a range that has no number below 0
pub whole_number : (r : Range) (v : ℤ) → int_le (pos 0) r.low ≡ true → within r v ≡ true → (pos (unsigned_abs v) ≡ v) × (int_le v r.high ≡ true)
whole_number r v low w =
    let q = and_parts (int_le r.low v) (int_le v r.high && nat_lt (unsigned_abs v) bound) w in
    (sign v r.low low q.0, (and_parts (int_le v r.high) (nat_lt (unsigned_abs v) bound) q.1).0)
  where
    sign : (y l : ℤ) → int_le (pos 0) l ≡ true → int_le l y ≡ true → pos (unsigned_abs y) ≡ y
    sign (pos n) l low h = refl
    sign (negsuc n) (pos m) low h = absurd (false≢true h)
    sign (negsuc n) (negsuc m) low h = absurd (false≢true low)

pub at_most : (v : ℤ) (m : ℕ) → pos (unsigned_abs v) ≡ v → int_le v (pos m) ≡ true → unsigned_abs v ≤ m
at_most (pos n) m e h = leb-true n m h
at_most (negsuc n) m e h = absurd (let z : ◌≡◌ {A = ℕ} 0 1 = cc in omega arith)

-- small letters make a word
abbrev pub lettered : List ℕ → Bool
lettered [] = true
lettered (b ∷ w) = (nat_le 97 b && nat_le b 122) && lettered w

pub word_from : (w : List ℕ) → 0 < length w → length w ≤ most_letters → lettered w ≡ true → Word w
word_from w some few h = (some, few, all w h)
  where
    all : (w : List ℕ) → lettered w ≡ true → AllByRecursion Letter w
    all [] h = tt
    all (b ∷ w) h =
        let p = and_parts (nat_le 97 b && nat_le b 122) (lettered w) h in
        let q = and_parts (nat_le 97 b) (nat_le b 122) p.0 in
        ((leb-true 97 b q.0, leb-true b 122 q.1), all w p.1)

-- how many bytes a value below a power of ten is written with
pub short_digits : (k : ℕ) (z : ℤ) → 0 < k → unsigned_abs z < 10 ^ k → InRange z → length (digits z) ≤ k + 1
short_digits k (pos n) s h i = omega (arith, length_figures k n s h (omega arith))
short_digits k (negsuc n) s h i = omega (arith, length_figures k (suc n) s h (omega arith))

-- a value in a range on both sides of 0
pub near_zero : (low high : ℕ) (v : ℤ) → within (record { low = negsuc low; high = pos high }) v ≡ true → (unsigned_abs v ≤ low + 1) ⊎ (unsigned_abs v ≤ high)
near_zero low high (pos n) w = inr (leb-true n high (and_parts (nat_le n high) (nat_lt n bound) w).0)
near_zero low high (negsuc n) w = inl (omega (arith, leb-true n low (and_parts (nat_le n low) (nat_lt (suc n) bound) w).0))

-- values as the machine passes them on
pub kept_at : (rs : List Range) (vs : List ℤ) (i : ℕ) → in_ranges rs vs ≡ true → i < length rs → to_z w32 (of_z w32 (slice_index_or vs i (pos 0))) ≡ slice_index_or vs i (pos 0)
kept_at rs vs i h l =
    let a = in_ranges_all rs vs h in
    in_range_kept (slice_index_or vs i (pos 0)) (All-get_or InRange vs i (pos 0) (omega (arith, a.1)) a.0)

-- the value at a place is in the range at that place
pub within_at : (rs : List Range) (vs : List ℤ) (i : ℕ) (r : Range) → in_ranges rs vs ≡ true → i < length rs → within (slice_index_or rs i r) (slice_index_or vs i (pos 0)) ≡ true
within_at [] vs i r h l = absurd (omega arith)
within_at (q ∷ rs) [] i r h l = absurd (false≢true h)
within_at (q ∷ rs) (v ∷ vs) zero r h l = (value_first q rs v vs h).0
within_at (q ∷ rs) (v ∷ vs) (suc i) r h l = within_at rs vs i r (value_first q rs v vs h).1 (omega arith)

-- casting a value that is not below 0 to a number of 16 bits
module _ (r : Range) (z : ℤ) (low : int_le (pos 0) r.low ≡ true) (high : int_le r.high (pos 65535) ≡ true) (w : within r z ≡ true) where
  kept : to_z w32 (of_z w32 z) ≡ z
  kept = in_range_kept z (within_in_range r z w)

  pub cast_value : pos (unsigned_abs (to_z w32 (of_z w32 z))) ≡ z
  cast_value = ap (λ y. pos (unsigned_abs y)) kept ∙ (whole_number r z low w).0

  pub cast_fits : T (non_neg (to_z w32 (of_z w32 z))) × Fits w16 (unsigned_abs (to_z w32 (of_z w32 z)))
  cast_fits = rw kept (by z r.high (whole_number r z low w).0 (whole_number r z low w).1 high)
    where
      by : (y top : ℤ) → pos (unsigned_abs y) ≡ y → int_le y top ≡ true → int_le top (pos 65535) ≡ true → T (non_neg y) × Fits w16 (unsigned_abs y)
      by (pos n) (pos m) e h k = (tt, record { fits = omega (arith, leb-true n m h, leb-true m 65535 k) })
      by (pos n) (negsuc m) e h k = absurd (false≢true h)
      by (negsuc n) top e h k = absurd (let x : ◌≡◌ {A = ℕ} 0 1 = cc in omega arith)

-- four values, one by one
pub same_four : (a b c d p q r s : ℤ) → a ≡ p → b ≡ q → c ≡ r → d ≡ s → a ∷ b ∷ c ∷ d ∷ [] ≡ p ∷ q ∷ r ∷ s ∷ []
same_four a b c d p q r s e f g h = cc
