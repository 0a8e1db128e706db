-- Numbers in strings of bytes.
use Rattle.std.proofs.Common.{◌≡◌, ℕ, zero, suc, ◌+◌, ◌*◌, ◌/◌, ◌%◌, ◌^◌, ◌≤◌, List, [], ◌∷◌, ◌++◌, length, take, drop, sym, refl, ap, ◌∙◌, mul-suc, arith}
use Rattle.std.proofs.lemmas.List.{take-append-le, drop-append-le, length-drop, length-take-le, take_at}
use Rattle.std.proofs.lemmas.Nat.{field_of}
use lib.Pow.{mod-mod-pow}
use Rattle.hash.specs.Bytes.{number, str, ints_of, ints}

-- the bytes of a number of 32 bits, and of 64
pub str_four : (v : ℕ) → v % 256 ∷ v / 256 % 256 ∷ v / 65536 % 256 ∷ v / 16777216 % 256 ∷ [] ≡ str 4 v
str_four v =
    let a : v / 65536 ≡ v / 256 / 256 = omega arith in
    let b : v / 16777216 ≡ v / 256 / 256 / 256 = omega arith in
    cc

pub str_eight : (v : ℕ) → v % 256 ∷ v / 256 % 256 ∷ v / 65536 % 256 ∷ v / 16777216 % 256 ∷ v / 4294967296 % 256 ∷ v / 1099511627776 % 256 ∷ v / 281474976710656 % 256 ∷ v / 72057594037927936 % 256 ∷ [] ≡ str 8 v
str_eight v =
    let a : v / 65536 ≡ v / 256 / 256 = omega arith in
    let b : v / 16777216 ≡ v / 256 / 256 / 256 = omega arith in
    let c : v / 4294967296 ≡ v / 256 / 256 / 256 / 256 = omega arith in
    let d : v / 1099511627776 ≡ v / 256 / 256 / 256 / 256 / 256 = omega arith in
    let e : v / 281474976710656 ≡ v / 256 / 256 / 256 / 256 / 256 / 256 = omega arith in
    let f : v / 72057594037927936 ≡ v / 256 / 256 / 256 / 256 / 256 / 256 / 256 = omega arith in
    cc

-- a byte of the low bits of z is that byte of z
pub byte_low : (z j k : ℕ) → z % 2 ^ (j + 8 + k) / 2 ^ k % 2 ^ 8 ≡ z / 2 ^ k % 2 ^ 8
byte_low z j k = ap (λ x. x % 2 ^ 8) (field_of z (j + 8) k) ∙ mod-mod-pow (z / 2 ^ k) j 8

-- only the low 32 bits of z count in four bytes, and the low 64 of x in the four above its low 32
pub str_low : (z : ℕ) → str 4 (z % 2 ^ 32) ≡ str 4 z
str_low z =
    let y = z % 2 ^ 32 in
    let a : y % 256 ≡ z % 256 = omega arith in
    let b : y / 256 % 256 ≡ z / 256 % 256 = byte_low z 16 8 in
    let c : y / 65536 % 256 ≡ z / 65536 % 256 = byte_low z 8 16 in
    let d : y / 16777216 % 256 ≡ z / 16777216 % 256 = byte_low z 0 24 in
    let e : y % 256 ∷ y / 256 % 256 ∷ y / 65536 % 256 ∷ y / 16777216 % 256 ∷ [] ≡ z % 256 ∷ z / 256 % 256 ∷ z / 65536 % 256 ∷ z / 16777216 % 256 ∷ [] = cc in
    sym (str_four y) ∙ e ∙ str_four z

pub str_wrapped : (x : ℕ) → str 4 (x % 2 ^ 64 / 2 ^ 32) ≡ str 4 (x / 2 ^ 32)
str_wrapped x = ap (str 4) (field_of x 32 32) ∙ str_low (x / 2 ^ 32)

-- how many numbers of n bytes each
pub length_ints : (n count : ℕ) (s : List ℕ) → length (ints_of n count s) ≡ count
length_ints n zero s = refl
length_ints n (suc count) s = ap suc (length_ints n count (drop n s))

-- fewer of them, and of a longer string
pub take_ints : (n k count : ℕ) (s : List ℕ) → k ≤ count → take k (ints_of n count s) ≡ ints_of n k s
take_ints n zero count s h = refl
take_ints n (suc k) zero s h = absurd (omega arith)
take_ints n (suc k) (suc count) s h = ap (λ x. number (take n s) ∷ x) (take_ints n k count (drop n s) (omega arith))

pub ints_append : (n count : ℕ) (s t : List ℕ) → n * count ≤ length s → ints_of n count (s ++ t) ≡ ints_of n count s
ints_append n zero s t h = refl
ints_append n (suc count) s t h =
    let e = mul-suc n count in
    let le : n ≤ length s = omega arith in
    let a = take-append-le n s t le in
    let b = drop-append-le n s t le in
    let c = ints_append n count (drop n s) t (omega (arith, length-drop n s)) in
    ap (λ x. number x ∷ ints_of n count (drop n (s ++ t))) a ∙ ap (λ x. number (take n s) ∷ ints_of n count x) b ∙ ap (λ x. number (take n s) ∷ x) c

-- numbers read from a part of some bytes into the front of a list
pub read_front : (w n len len' a a' : ℕ) (bytes out rest : List ℕ) → out ≡ ints w (take len (drop a bytes)) → len ≡ len' → a ≡ a' → a + len ≤ length bytes → len / w ≡ n → take n (out ++ rest) ≡ ints w (take len' (drop a' bytes))
read_front w n len len' a a' bytes out rest e f g le d =
    let l : length (take len (drop a bytes)) ≡ len = length-take-le len (drop a bytes) (omega (arith, length-drop a bytes)) in
    let m : length out ≡ n = ap length e ∙ length_ints w (length (take len (drop a bytes)) / w) (take len (drop a bytes)) ∙ ap (λ x. x / w) l ∙ d in
    take_at out rest n m ∙ e ∙ ap (λ x. ints w (take x (drop a bytes))) f ∙ ap (λ x. ints w (take len' (drop x bytes))) g
