-- Bytes as elements of GF(2^8), as in FIPS 197, section 4: the bits of a byte
-- are the coefficients of a polynomial over GF(2), lowest first, and products
-- are taken modulo x^8 + x^4 + x^3 + x + 1, which is 11b.
use Rattle.std.specs.Prelude.{◌≡◌, ℕ, zero, suc, ◌+◌, ◌*◌, ◌/◌, ◌%◌, ◌^◌}
use Rattle.std.specs.Int.Bits.{bit_xor}

-- The product with x (section 4.2.1): the bits move up by one, and an x^8 that
-- falls out is x^4 + x^3 + x + 1, which is 1b.
abbrev pub xtime : ℕ → ℕ
xtime a = bit_xor (a * 2 % 256) (27 * (a / 128))

-- The sum, over the n lowest bits i of b that are 1, of a times x^i.
abbrev pub times : (n a b : ℕ) → ℕ
times zero a b = 0
times (suc n) a b = bit_xor (a * (b % 2)) (times n (xtime a) (b / 2))

-- The product of two bytes.
unfoldable pub product : (a b : ℕ) → ℕ
product a b = times 8 a b

-- a^254, as a^2 · a^12 · a^240: the inverse of a, since a^255 is 1 for every a
-- but 0, and 0 for 0.
unfoldable pub inverse : ℕ → ℕ
inverse a =
    let a2 = product a a in
    let a3 = product a2 a in
    let a6 = product a3 a3 in
    let a12 = product a6 a6 in
    let a15 = product a12 a3 in
    let a30 = product a15 a15 in
    let a60 = product a30 a30 in
    let a120 = product a60 a60 in
    let a240 = product a120 a120 in
    product (product a240 a12) a2

-- What it means to be the inverse of a: 0 for 0, and else the product is 1.
abbrev pub Inverse : (a b : ℕ) → Type 0
Inverse a b = (a ≡ 0 → b ≡ 0) × ((a ≡ 0 → ⊥) → product a b ≡ 1)

-- bit i of a byte
abbrev pub bit : (b i : ℕ) → ℕ
bit b i = b / 2 ^ i % 2

-- Bit i of the affine map (section 5.1.1): b_i + b_(i+4) + b_(i+5) + b_(i+6) +
-- b_(i+7) + c_i, indices modulo 8 and sums modulo 2, where c is 63.
abbrev pub affine_bit : (b i : ℕ) → ℕ
affine_bit b i = (bit b i + bit b ((i + 4) % 8) + bit b ((i + 5) % 8) + bit b ((i + 6) % 8) + bit b ((i + 7) % 8) + bit 0x63 i) % 2

-- The number whose bits, from i on, are those of the affine map, n of them.
abbrev pub affine_from : (b i n : ℕ) → ℕ
affine_from b i zero = 0
affine_from b i (suc n) = affine_bit b i * 2 ^ i + affine_from b (suc i) n

unfoldable pub affine : ℕ → ℕ
affine b = affine_from b 0 8

-- An entry of the S-box: the affine map of the inverse.
abbrev pub sbox : ℕ → ℕ
sbox a = affine (inverse a)
