-- AES-256 as in FIPS 197. A block and the state are the list of their sixteen
-- bytes: the byte in row r and column c of the state stands at r + 4c.
use Rattle.std.specs.Prelude.{ℕ, zero, suc, ◌+◌, ◌-◌, ◌*◌, ◌/◌, ◌%◌, ◌^◌, cond, List, [], ◌∷◌, ◌++◌, map, take, drop, ◌==◌, bit_xor, slice_index}
use Rattle.std.specs.Simd.Lanes.{zip2}
use Rattle.std.specs.List.{range_with_len}
use Rattle.stream.specs.Stream.{StreamOf}
use Rattle.field.specs.Field.{product, sbox}

-- the byte in row r and column c
abbrev pub cell : (s : List ℕ) (r c : ℕ) → ℕ
cell s r c = slice_index s (r + 4 * c)

-- SubBytes (section 5.1.1)
unfoldable pub sub_bytes : List ℕ → List ℕ
sub_bytes s = map sbox s

-- ShiftRows (section 5.1.2): row r moves to the left by r columns. Of the byte
-- at i, the row is i mod 4 and the column i div 4.
unfoldable pub shift_rows : List ℕ → List ℕ
shift_rows s = map (λ i. cell s (i % 4) ((i / 4 + i % 4) % 4)) (range_with_len 0 16)

-- MixColumns (section 5.1.3): a byte becomes 2 times itself plus 3 times the
-- one in the next row plus those in the two rows after, of its own column.
abbrev pub mixed_byte : (s : List ℕ) (r c : ℕ) → ℕ
mixed_byte s r c =
    bit_xor (bit_xor (bit_xor (product (cell s r c) 2) (product (cell s ((r + 1) % 4) c) 3)) (cell s ((r + 2) % 4) c)) (cell s ((r + 3) % 4) c)

unfoldable pub mix_columns : List ℕ → List ℕ
mix_columns s = map (λ i. mixed_byte s (i % 4) (i / 4)) (range_with_len 0 16)

-- AddRoundKey (section 5.1.4) with round key n of the expanded key
abbrev pub add_round_key : (expanded : List ℕ) (n : ℕ) → List ℕ → List ℕ
add_round_key expanded n s = zip2 bit_xor s (take 16 (drop (16 * n) expanded))

-- Of a word in the key expansion (section 5.2), byte k of temp: the word before
-- it, rotated and substituted with the round constant added where i is a
-- multiple of 8, substituted where i is 4 above one.
abbrev pub temp_byte : (w : List ℕ) (i k : ℕ) → ℕ
temp_byte w i k =
    cond (i % 8 == 0)
    (bit_xor (sbox (slice_index w (4 * (i - 1) + (k + 1) % 4))) (cond (k == 0) (2 ^ (i / 8 - 1)) 0))
    (cond (i % 8 == 4) (sbox (slice_index w (4 * (i - 1) + k))) (slice_index w (4 * (i - 1) + k)))

-- byte k of word i: temp added to the word eight words before
abbrev pub key_byte : (w : List ℕ) (i k : ℕ) → ℕ
key_byte w i k = bit_xor (slice_index w (4 * (i - 8) + k)) (temp_byte w i k)

-- The key and n more words of the expanded key.
abbrev pub grown : (key : List ℕ) (n : ℕ) → List ℕ
grown key zero = key
grown key (suc n) =
    let w = grown key n in
    w ++ key_byte w (n + 8) 0 ∷ key_byte w (n + 8) 1 ∷ key_byte w (n + 8) 2 ∷ key_byte w (n + 8) 3 ∷ []

-- The expanded key: 60 words, for 14 rounds and the start.
unfoldable pub expanded_key : (key : List ℕ) → List ℕ
expanded_key key = grown key 52

-- The start and n full rounds (section 5.1).
abbrev pub full_rounds : (expanded : List ℕ) (n : ℕ) → List ℕ → List ℕ
full_rounds expanded zero s = add_round_key expanded 0 s
full_rounds expanded (suc n) s = add_round_key expanded (suc n) (mix_columns (shift_rows (sub_bytes (full_rounds expanded n s))))

-- The cipher: thirteen full rounds, and a last one without MixColumns.
unfoldable pub encrypted : (expanded block : List ℕ) → List ℕ
encrypted expanded block = add_round_key expanded 14 (shift_rows (sub_bytes (full_rounds expanded 13 block)))

-- a number as 4 bytes, highest first
abbrev pub four_bytes : ℕ → List ℕ
four_bytes j = (j / 16777216 % 256) ∷ (j / 65536 % 256) ∷ (j / 256 % 256) ∷ (j % 256) ∷ []

-- The byte of the counter form at a place: block j of 16 bytes encrypts, under
-- the seed, the nonce followed by j as 4 bytes, highest first. (The remainder
-- by 256 changes nothing where the seed is bytes.)
abbrev pub byte_under : (expanded nonce : List ℕ) (place : ℕ) → ℕ
byte_under expanded nonce place = slice_index (encrypted expanded (nonce ++ four_bytes (place / 16))) (place % 16) % 256

abbrev pub byte_at : (seed nonce : List ℕ) (place : ℕ) → ℕ
byte_at seed nonce place = byte_under (expanded_key seed) nonce place

-- AES-256 in counter form, as a stream: it has 14 rounds
abbrev pub aes_of : StreamOf
aes_of = record { rounds = 14; byte = byte_at }
