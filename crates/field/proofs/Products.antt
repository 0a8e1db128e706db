-- Turns of the product, and what antt computes at every byte.
use Rattle.std.proofs.Common.{◌≡◌, ℕ, ◌-◌, ◌*◌, ◌/◌, ◌%◌, ◌^◌, ◌<◌, true, cond, eqb, bit_xor, bit_or, refl, sym, ap, ◌∙◌, mul-one, mul-zero}
use lib.Bits.{xor_assoc, xor_zero_l}
use Rattle.std.proofs.lemmas.Bool.{agree_below, agree_below_at, eqb-true, ne_eqb}
use Rattle.field.specs.Field.{product, inverse, Inverse, affine}

-- a turn of the product: the bit is 1
pub bit_one : (sum a b rest : ℕ) → b % 2 ≡ 1 → bit_xor sum (bit_xor (a * (b % 2)) rest) ≡ bit_xor (bit_xor sum a) rest
bit_one sum a b rest e = ap (λ k. bit_xor sum (bit_xor k rest)) (ap (λ k. a * k) e ∙ mul-one a) ∙ sym (xor_assoc sum a rest)

pub bit_zero : (sum a b rest : ℕ) → b % 2 ≡ 0 → bit_xor sum (bit_xor (a * (b % 2)) rest) ≡ bit_xor sum rest
bit_zero sum a b rest e = ap (λ k. bit_xor sum (bit_xor k rest)) (ap (λ k. a * k) e ∙ mul-zero a) ∙ ap (bit_xor sum) (xor_zero_l rest)

-- two functions that give the same at every byte, as antt computes it at each
same : (f g : ℕ → ℕ) → agree_below (λ b. eqb (f b) (g b)) (λ b. true) 256 ≡ true → (b : ℕ) → b < 256 → f b ≡ g b
same f g t b h = eqb-true (f b) (g b) (agree_below_at (λ b. eqb (f b) (g b)) (λ b. true) 256 b t h)

-- a times its inverse is 1 at every byte but 0
pub inverts : (a : ℕ) → a < 256 → Inverse a (inverse a)
unfolding product inverse
inverts a h =
    let e = same (λ b. product b (inverse b)) (λ b. cond (eqb b 0) 0 1) refl a h in
    ((λ z. ap inverse z), (λ nz. e ∙ ap (λ t. cond t 0 1) (ne_eqb a 0 nz)))

-- the affine map by rotations, at every byte
abbrev pub rotated : (b n : ℕ) → ℕ
rotated b n = bit_or ((b * 2 ^ n) % 256) (b / 2 ^ (8 - n))

pub affine_rotated : (b : ℕ) → b < 256 → bit_xor (bit_xor (bit_xor (bit_xor (bit_xor b (rotated b 1)) (rotated b 2)) (rotated b 3)) (rotated b 4)) 99 ≡ affine b
unfolding affine
affine_rotated b h = same (λ b. bit_xor (bit_xor (bit_xor (bit_xor (bit_xor b (rotated b 1)) (rotated b 2)) (rotated b 3)) (rotated b 4)) 99) affine refl b h
