-- HS1-Hash and the joined results of its t runs (HS1-SIV draft v2, figures 2 and 3).
use Rattle.std.specs.Prelude.{ℕ, zero, suc, ◌+◌, ◌-◌, ◌*◌, ◌/◌, ◌%◌, ◌^◌, List, [], ◌∷◌, ◌++◌, map, length, take, drop, slice_index}
use Rattle.hash.specs.declared.Strength.{Strength}
use Rattle.hash.specs.declared.Strength.TheVariants.{Lo, Mid, Hi}
use Rattle.hash.specs.Strength.{hashes}
use Rattle.hash.specs.Bytes.{str, pad, ints}
use Rattle.hash.specs.Nh.{nh}

-- n blocks of 64 bytes, and behind them one block of what is left
abbrev pub cut : ℕ → List ℕ → List (List ℕ)
cut zero m = m ∷ []
cut (suc n) m = take 64 m ∷ cut n (drop 64 m)

-- An input in blocks of 64 bytes: the last may be shorter, and empty input is one empty block.
abbrev pub blocks : List ℕ → List (List ℕ)
blocks m = cut ((length m - 1) / 64) m

-- the number that a block becomes under sixteen words of kN
unfoldable pub block_number : (k block : List ℕ) → ℕ
block_number k block = nh k (ints 4 (pad 16 block)) % 2 ^ 60 + length block % 16

-- the prime that the polynomial is reckoned by
abbrev pub prime : ℕ
prime = 2 ^ 61 - 1

-- one step of the polynomial at kP
unfoldable pub turn : (kP h a : ℕ) → ℕ
turn kP h a = (h * kP + a) % prime

-- h after each of the blocks
abbrev pub turned : (k : List ℕ) (kP h : ℕ) → List (List ℕ) → ℕ
turned k kP h [] = h
turned k kP h (b ∷ bs) = turned k kP (turn kP h (block_number k b)) bs

-- h of an input: 1, turned by each of its blocks
unfoldable pub h_of : (k : List ℕ) (kP : ℕ) → List ℕ → ℕ
h_of k kP m = turned k kP 1 (blocks m)

-- the last step of strength hi, at three numbers of kA
unfoldable pub affine : (kA : List ℕ) (h : ℕ) → List ℕ
affine kA h =
    str 4 ((slice_index kA 0 + slice_index kA 1 * (h % 2 ^ 32) + slice_index kA 2 * (h / 2 ^ 32)) / 2 ^ 32)

-- what a hash gives for h
abbrev pub result_of : Strength → (kA : List ℕ) (h : ℕ) → List ℕ
result_of Lo kA h = str 8 h
result_of Mid kA h = str 8 h
result_of Hi kA h = affine kA h

-- how many bytes that is
abbrev pub result_width : Strength → ℕ
result_width Lo = 8
result_width Mid = 8
result_width Hi = 4

-- h of hash i: sixteen words of kN from 4 i on, and number i of kP
unfoldable pub h_at : (kN kP : List ℕ) → List ℕ → (i : ℕ) → ℕ
h_at kN kP m i = h_of (take 16 (drop (4 * i) kN)) (slice_index kP i) m

-- the results of the hashes below n, joined; h i is h of hash i, which uses three numbers of kA from 3 i on
abbrev pub results : Strength → (kA : List ℕ) (h : ℕ → ℕ) → ℕ → List ℕ
results s kA h zero = []
results s kA h (suc n) = results s kA h n ++ result_of s (take 3 (drop (3 * n) kA)) (h n)

-- the results of all t hashes, joined and padded to 32 bytes
unfoldable pub hashed : Strength → (kN kP kA : List ℕ) → List ℕ → List ℕ
hashed s kN kP kA m = pad 32 (results s kA (h_at kN kP m) (hashes s))

-- numbers of kP, each modulo 2^60
abbrev pub below60 : List ℕ → List ℕ
below60 ks = map (λ k. k % 2 ^ 60) ks
