-- Strings compared and exclusive-ored.
use Rattle.std.proofs.Common.{◌≡◌, ℕ, Bool, true, false, ◌&&◌, eqb, List, [], ◌∷◌, ◌++◌, length, drop, fold, zip, sym, refl, ap, ◌∙◌, ⊎_elim, append-nil, arith}
use lib.Bits.{bit_xor, bit_or, xor_self, or_add_and, xor_add_and, and_le_l, and_le_r}
use lib.Lanes.{zip2}
use Rattle.std.proofs.lemmas.List.{drop_all}
use Rattle.std.proofs.lemmas.Bool.{both_ways, eqb-true, eq-eqb, ne_eqb, and_parts, and_from, and_left, and_right, cases_eq}
use Rattle.hs1.specs.Seal.{same}

pub or_none : (a b : ℕ) → bit_or a b ≡ 0 → (a ≡ 0) × (b ≡ 0)
or_none a b e = omega (arith, or_add_and a b, and_le_l a b, and_le_r a b)

pub xor_none : (a b : ℕ) → bit_xor a b ≡ 0 → a ≡ b
xor_none a b e = omega (arith, xor_add_and a b, and_le_l a b, and_le_r a b)

pub same_is : (xs ys : List ℕ) → same xs ys ≡ true → xs ≡ ys
same_is [] [] e = refl
same_is [] (y ∷ ys) e = absurd (both_ways false refl e)
same_is (x ∷ xs) [] e = absurd (both_ways false refl e)
same_is (x ∷ xs) (y ∷ ys) e =
    let p = and_parts (eqb x y) (same xs ys) e in
    ap (λ z. z ∷ xs) (eqb-true x y p.0) ∙ ap (λ zs. y ∷ zs) (same_is xs ys p.1)

pub same_refl : (xs : List ℕ) → same xs xs ≡ true
same_refl [] = refl
same_refl (x ∷ xs) = and_from (eqb x x) (same xs xs) (eq-eqb x x refl) (same_refl xs)

-- one more byte of each, looked at: nothing differs where nothing did and the two are equal
abbrev pub looked_at : ℕ → ℕ × ℕ → ℕ
looked_at differ p = bit_or differ (bit_xor p.0 p.1)

pub looked_more : (d x y : ℕ) → eqb (bit_or d (bit_xor x y)) 0 ≡ (eqb d 0 && eqb x y)
looked_more d x y =
    ⊎_elim
    (λ (z : d ≡ 0).
    ⊎_elim
    (λ (w : x ≡ y).
    eq-eqb (bit_or d (bit_xor x y)) 0 (ap (λ v. bit_or v (bit_xor x y)) z ∙ ap (λ v. bit_xor v y) w ∙ xor_self y)
    ∙ sym (and_from (eqb d 0) (eqb x y) (eq-eqb d 0 z) (eq-eqb x y w)))
    (λ ne.
    ne_eqb (bit_or d (bit_xor x y)) 0 (λ e. ne (xor_none x y (or_none d (bit_xor x y) e).1))
    ∙ sym (and_right (eqb d 0) (eqb x y) (ne_eqb x y ne)))
    (cases_eq x y))
    (λ ne.
    ne_eqb (bit_or d (bit_xor x y)) 0 (λ e. ne (or_none d (bit_xor x y) e).0)
    ∙ sym (and_left (eqb d 0) (eqb x y) (ne_eqb d 0 ne)))
    (cases_eq d 0)

and_true : (b : Bool) → (b && true) ≡ b
and_true true = refl
and_true false = refl

and_assoc : (a b c : Bool) → ((a && b) && c) ≡ (a && (b && c))
and_assoc true b c = refl
and_assoc false b c = refl

pub looked_all : (a b : List ℕ) (d : ℕ) → length a ≡ length b → eqb (fold looked_at d (zip a b)) 0 ≡ (eqb d 0 && same a b)
looked_all [] [] d l = sym (and_true (eqb d 0))
looked_all [] (y ∷ ys) d l = absurd (omega arith)
looked_all (x ∷ xs) [] d l = absurd (omega arith)
looked_all (x ∷ xs) (y ∷ ys) d l =
    looked_all xs ys (bit_or d (bit_xor x y)) (omega arith)
    ∙ ap (λ b. b && same xs ys) (looked_more d x y)
    ∙ and_assoc (eqb d 0) (eqb x y) (same xs ys)

-- two strings of one length, exclusive-ored
pub xor_whole : (a b : List ℕ) → length a ≡ 32 → length b ≡ 32 → zip2 bit_xor a b ++ drop (length b) a ≡ zip2 bit_xor a b
xor_whole a b k l = ap (λ x. zip2 bit_xor a b ++ x) (drop_all (length b) a (omega arith)) ∙ append-nil (zip2 bit_xor a b)
