-- The line that a pattern and values make, byte by byte of the pattern.
use Rattle.std.proofs.Common.{◌≡◌, ℕ, suc, ◌+◌, ◌-◌, ◌<◌, ◌≤◌, true, false, cond, ◌&&◌, eqb, ltb, leb, List, [], ◌∷◌, ◌++◌, length, get_or, drop, ℤ, nat_abs, Some, None, Option, MatchOption, IfSome, MatchBool, Bool, Bor, Iter, zero, sym, refl, ap, ◌∙◌, subst, ap₂, ⊎_elim, arith, length-append}
use lib.Signed.{le_z}
use Rattle.std.proofs.lemmas.List.{nil_from_length, drop_more, drop_all}
use Rattle.std.proofs.lemmas.Bool.{cond-true, cond-false, eq-eqb, ne_eqb, and_parts, and_from, ltb-true, leb-true, cases_Bool, cases_eq, false≢true}
use Rattle.shape.specs.Decimal.{digits, InRange}
use Rattle.shape.specs.Limits.{bound}
use Rattle.kinds.proofs.Overwrite.{Over, over_room}
use Rattle.patterns.specs.declared.Range.{Range}
use Rattle.std.specs.List.{AllWithin, HoldsAt, zip}
use Rattle.std.specs.Option.{option_copied}
use Rattle.patterns.specs.Pattern.{first_digits, digits_of, spelt, within, in_ranges, AllInRange, FitsRoom}

pub spelt_number : (b : ℕ) (p : List ℕ) (vs : List ℤ) → b ≡ 35 → spelt (b ∷ p) vs ≡ first_digits vs ++ spelt p (drop 1 vs)
spelt_number b p vs e = let t = eq-eqb b 35 e in ap₂ (λ x y. x ++ spelt p y) (cond-true (eqb b 35) (first_digits vs) (b ∷ []) t) (cond-true (eqb b 35) (drop 1 vs) vs t)

pub spelt_byte : (b : ℕ) (p : List ℕ) (vs : List ℤ) → (b ≡ 35 → ⊥) → spelt (b ∷ p) vs ≡ b ∷ spelt p vs
spelt_byte b p vs e = let t = ne_eqb b 35 e in ap₂ (λ x y. x ++ spelt p y) (cond-false (eqb b 35) (first_digits vs) (b ∷ []) t) (cond-false (eqb b 35) (drop 1 vs) vs t)

-- what is to come from a place of the pattern on, with these values left
module _ (p : List ℕ) (left : List ℤ) (i : ℕ) where
  pub next_number : i < length p → get_or p i 0 ≡ 35 → spelt (drop i p) left ≡ first_digits left ++ spelt (drop (i + 1) p) (drop 1 left)
  next_number h e = ap (λ q. spelt q left) (drop_more p i 0 h) ∙ spelt_number (get_or p i 0) (drop (i + 1) p) left e

  pub next_byte : i < length p → (get_or p i 0 ≡ 35 → ⊥) → spelt (drop i p) left ≡ get_or p i 0 ∷ spelt (drop (i + 1) p) left
  next_byte h e = ap (λ q. spelt q left) (drop_more p i 0 h) ∙ spelt_byte (get_or p i 0) (drop (i + 1) p) left e

  pub no_more : length p ≤ i → spelt (drop i p) left ≡ []
  no_more h = ap (λ q. spelt q left) (drop_all i p h)

-- the value that the iterator of the values gives next, and those after it
module _ (s t : Iter ℤ) (x : Option (Bor ℤ)) (v : Option ℤ) (is : v ≡ option_copied x) (step : MatchOption x ((length s.rest.now ≡ 0) × (t ≡ s)) (λ y. s.rest.now ≡ y.now ∷ t.rest.now)) where
  pub took : (digits_of v ≡ first_digits s.rest.now) × (drop 1 s.rest.now ≡ t.rest.now)
  took = rw is (by x step)
    where
      by : (x : Option (Bor ℤ)) → MatchOption x ((length s.rest.now ≡ 0) × (t ≡ s)) (λ y. s.rest.now ≡ y.now ∷ t.rest.now) → (digits_of (option_copied x) ≡ first_digits s.rest.now) × (drop 1 s.rest.now ≡ t.rest.now)
      by None k = let e = nil_from_length s.rest.now k.0 in (sym (ap first_digits e), ap (drop 1) e ∙ sym (ap (λ z. z.rest.now) k.1 ∙ e))
      by (Some y) k = (sym (ap first_digits k), ap (drop 1) k)

  pub took_in_range : AllInRange s.rest.now → IfSome v InRange × AllInRange t.rest.now
  took_in_range a = rw is (by x step a)
    where
      by : (x : Option (Bor ℤ)) → MatchOption x ((length s.rest.now ≡ 0) × (t ≡ s)) (λ y. s.rest.now ≡ y.now ∷ t.rest.now) → AllInRange s.rest.now → IfSome (option_copied x) InRange × AllInRange t.rest.now
      by None k a = (tt, subst (λ z. AllInRange z.rest.now) (sym k.1) a)
      by (Some y) k a = subst (λ l. AllInRange l) k a

-- measuring
pub record Measured (p : List ℕ) (vs : List ℤ) (room i len : ℕ) (left : List ℤ) : Type 0 where
  pub fits : len ≤ room
  pub in_range : AllInRange left
  pub whole : length (spelt p vs) ≡ len + length (spelt (drop i p) left)

-- one byte of the pattern makes so many bytes
pub record Piece (p : List ℕ) (i size : ℕ) (left after : List ℤ) : Type 0 where
  pub in_range : AllInRange left → AllInRange after
  pub long : length (spelt (drop i p) left) ≡ size + length (spelt (drop (i + 1) p) after)

module _ (p : List ℕ) (i size : ℕ) (left after : List ℤ) (h : i < length p) where
  pub piece_number : get_or p i 0 ≡ 35 → (v : Option ℤ) → (digits_of v ≡ first_digits left) × (drop 1 left ≡ after) → (AllInRange left → IfSome v InRange × AllInRange after) → size ≡ length (digits_of v) → Piece p i size left after
  piece_number e v t r s = record {
    in_range = λ a. (r a).1;
    long = ap length (next_number p left i h e) ∙ length-append (first_digits left) (spelt (drop (i + 1) p) (drop 1 left)) ∙ ap₂ (λ m ws. m + length (spelt (drop (i + 1) p) ws)) (sym (s ∙ ap length t.0)) t.1;
  }

  pub piece_byte : (get_or p i 0 ≡ 35 → ⊥) → size ≡ 1 → after ≡ left → Piece p i size left after
  piece_byte e s a = record { in_range = λ k. subst (λ l. AllInRange l) (sym a) k; long = ap length (next_byte p left i h e) ∙ (rw (s, a) (omega arith)) }

module _ (p : List ℕ) (vs : List ℤ) (room i len size : ℕ) (left after : List ℤ) (m : Measured p vs room i len left) (k : Piece p i size left after) where
  pub measured_more : size ≤ room - len → Measured p vs room (i + 1) (len + size) after
  measured_more h = record { fits = omega (arith, m.fits); in_range = k.in_range m.in_range; whole = omega (arith, m.whole, k.long) }

  pub measured_short : room - len < size → FitsRoom (spelt p vs) room None
  measured_short h = omega (arith, m.whole, k.long, m.fits)

pub measured_all : (p : List ℕ) (vs : List ℤ) (room i len : ℕ) (left : List ℤ) → Measured p vs room i len left → length p ≤ i → FitsRoom (spelt p vs) room (Some len)
measured_all p vs room i len left m h = (omega (arith, m.whole, ap length (no_more p left i h)), m.fits)

-- values in their ranges are as many, and lines can hold them
pub within_in_range : (r : Range) (v : ℤ) → within r v ≡ true → InRange v
within_in_range r v e = ltb-true (nat_abs v) bound (and_parts (le_z v r.high) (ltb (nat_abs v) bound) (and_parts (le_z r.low v) (le_z v r.high && ltb (nat_abs v) bound) e).1).1

pub in_ranges_all : (rs : List Range) (vs : List ℤ) → in_ranges rs vs ≡ true → AllInRange vs × (length rs ≡ length vs)
in_ranges_all [] [] e = (tt, refl)
in_ranges_all [] (v ∷ vs) e = absurd (false≢true e)
in_ranges_all (r ∷ rs) [] e = absurd (false≢true e)
in_ranges_all (r ∷ rs) (v ∷ vs) e =
    let q = and_parts (within r v) (in_ranges rs vs) e in
    let t = in_ranges_all rs vs q.1 in
    ((within_in_range r v q.0, t.0), ap suc t.1)

pub other_count : (rs : List Range) (vs : List ℤ) → (length rs ≡ length vs → ⊥) → in_ranges rs vs ≡ false
other_count rs vs ne = ⊎_elim (λ e. absurd (ne (in_ranges_all rs vs e).1)) (λ e. e) (cases_Bool (in_ranges rs vs))

-- a range and a value, and what the test of all of them says
abbrev pub Held : Range × ℤ → Type 0
Held p = within p.0 p.1 ≡ true

abbrev pub Missed : Range × ℤ → Type 0
Missed p = within p.0 p.1 ≡ false

in_each : (rs : List Range) (vs : List ℤ) → length rs ≡ length vs → AllWithin Held (zip rs vs) 0 (length (zip rs vs)) → in_ranges rs vs ≡ true
in_each [] [] n a = refl
in_each [] (v ∷ vs) n a = absurd (omega (arith, n))
in_each (r ∷ rs) [] n a = absurd (omega (arith, n))
in_each (r ∷ rs) (v ∷ vs) n a = and_from (within r v) (in_ranges rs vs) (a 0 (r, v) (omega arith) (omega arith)) (in_each rs vs (omega (arith, n)) (λ k d l h. a (suc k) d (omega arith) (omega arith)))

missed_one : (rs : List Range) (vs : List ℤ) (k : ℕ) → k < length (zip rs vs) → HoldsAt Missed (zip rs vs) k → in_ranges rs vs ≡ false
missed_one [] vs k l h = absurd (omega arith)
missed_one (r ∷ rs) [] k l h = absurd (omega arith)
missed_one (r ∷ rs) (v ∷ vs) zero l h = ap (λ b. b && in_ranges rs vs) (h (r, v))
missed_one (r ∷ rs) (v ∷ vs) (suc k) l h =
    let later : in_ranges rs vs ≡ false = missed_one rs vs k (omega arith) h in
    ⊎_elim (λ e. ap₂ ◌&&◌ e later) (λ e. ap (λ b. b && in_ranges rs vs) e) (cases_Bool (within r v))

pub tested : (rs : List Range) (vs : List ℤ) (b : Bool) → length rs ≡ length vs → MatchBool b (AllWithin Held (zip rs vs) 0 (length (zip rs vs))) ((k : ℕ) × (k < length (zip rs vs)) × HoldsAt Missed (zip rs vs) k) → b ≡ in_ranges rs vs
tested rs vs true n m = sym (in_each rs vs n m)
tested rs vs false n m = sym (missed_one rs vs m.0 m.1 m.2)

-- writing: what is to come next
module _ (p : List ℕ) (vs : List ℤ) (before out : List ℕ) (at i : ℕ) (left : List ℤ) (o : Over (spelt p vs) before out at (spelt (drop i p) left)) (h : i < length p) where
  pub number_comes : get_or p i 0 ≡ 35 → (v : Option ℤ) (after : List ℤ) → (digits_of v ≡ first_digits left) × (drop 1 left ≡ after) → Over (spelt p vs) before out at (digits_of v ++ spelt (drop (i + 1) p) after)
  number_comes e v after t = subst (λ z. Over (spelt p vs) before out at z) (next_number p left i h e ∙ ap₂ (λ d ws. d ++ spelt (drop (i + 1) p) ws) (sym t.0) t.1) o

  pub byte_comes : (get_or p i 0 ≡ 35 → ⊥) → Over (spelt p vs) before out at (get_or p i 0 ∷ spelt (drop (i + 1) p) left)
  byte_comes e = subst (λ z. Over (spelt p vs) before out at z) (next_byte p left i h e) o

  pub number_room : length (spelt p vs) ≤ length before → get_or p i 0 ≡ 35 → (v : Option ℤ) (after : List ℤ) → (digits_of v ≡ first_digits left) × (drop 1 left ≡ after) → at + length (digits_of v) ≤ length out
  number_room room e v after t = over_room (spelt p vs) before out at (digits_of v) (spelt (drop (i + 1) p) after) room (number_comes e v after t)

  pub byte_room : length (spelt p vs) ≤ length before → (get_or p i 0 ≡ 35 → ⊥) → at < length out
  byte_room room e = omega (arith, over_room (spelt p vs) before out at (get_or p i 0 ∷ []) (spelt (drop (i + 1) p) left) room (byte_comes e))

-- How long a line can be: so many bytes for each number, and one for each other byte.
abbrev pub width : List ℕ → List ℕ → ℕ
width [] ks = 0
width (b ∷ p) ks = cond (eqb b 35) (get_or ks 0 0) 1 + width p (cond (eqb b 35) (drop 1 ks) ks)

abbrev pub Short : List ℤ → List ℕ → Type 0
Short [] ks = Unit {0}
Short (v ∷ vs) ks = (length (digits v) ≤ get_or ks 0 0) × Short vs (drop 1 ks)

short_first : (vs : List ℤ) (ks : List ℕ) → Short vs ks → (length (first_digits vs) ≤ get_or ks 0 0) × Short (drop 1 vs) (drop 1 ks)
short_first [] ks s = (omega arith, tt)
short_first (v ∷ vs) ks s = s

pub spelt_width : (p : List ℕ) (vs : List ℤ) (ks : List ℕ) → Short vs ks → length (spelt p vs) ≤ width p ks
spelt_width [] vs ks s = omega arith
spelt_width (b ∷ p) vs ks s = ⊎_elim (λ e. number e (spelt_width p (drop 1 vs) (drop 1 ks) (short_first vs ks s).1)) (λ e. byte e (spelt_width p vs ks s)) (cases_eq b 35)
  where
    number : b ≡ 35 → length (spelt p (drop 1 vs)) ≤ width p (drop 1 ks) → length (spelt (b ∷ p) vs) ≤ width (b ∷ p) ks
    number e h =
        let t = eq-eqb b 35 e in
        let w : width (b ∷ p) ks ≡ get_or ks 0 0 + width p (drop 1 ks) = ap₂ (λ x y. x + width p y) (cond-true (eqb b 35) (get_or ks 0 0) 1 t) (cond-true (eqb b 35) (drop 1 ks) ks t) in
        omega (arith, w, ap length (spelt_number b p vs e), length-append (first_digits vs) (spelt p (drop 1 vs)), (short_first vs ks s).0)

    byte : (b ≡ 35 → ⊥) → length (spelt p vs) ≤ width p ks → length (spelt (b ∷ p) vs) ≤ width (b ∷ p) ks
    byte e h =
        let t = ne_eqb b 35 e in
        let w : width (b ∷ p) ks ≡ 1 + width p ks = ap₂ (λ x y. x + width p y) (cond-false (eqb b 35) (get_or ks 0 0) 1 t) (cond-false (eqb b 35) (drop 1 ks) ks t) in
        omega (arith, w, ap length (spelt_byte b p vs e))

pub spelt_within : (p : List ℕ) (vs : List ℤ) (ks : List ℕ) (most : ℕ) → Short vs ks → leb (width p ks) most ≡ true → length (spelt p vs) ≤ most
spelt_within p vs ks most s h = omega (arith, spelt_width p vs ks s, leb-true (width p ks) most h)
