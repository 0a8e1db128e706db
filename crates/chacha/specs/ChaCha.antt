-- ChaCha as in RFC 8439, for any number of rounds. Bytes and 32-bit words are
-- natural numbers, and the state is the list of its sixteen words.
use Rattle.std.specs.Prelude.{ℕ, zero, suc, ◌+◌, ◌-◌, ◌*◌, ◌/◌, ◌%◌, ◌^◌, List, [], ◌∷◌, ◌++◌, slice_set, bit_or, bit_xor, slice_index}
use Rattle.std.specs.Simd.Lanes.{zip2}

-- a + b modulo 2^32
abbrev pub add32 : (a b : ℕ) → ℕ
add32 a b = (a + b) % 2 ^ 32

-- x <<< n, a 32-bit word rotated left by n bits
unfoldable pub rotl : (n x : ℕ) → ℕ
rotl n x = bit_or ((x * 2 ^ (n % 32)) % 2 ^ 32) (x / 2 ^ ((32 - n % 32) % 32))

-- One line of the quarter round on the state, as "a += b; d ^= a; d <<<= n;"
-- (section 2.1), where a, b and d are indices.
unfoldable pub line : (a b d n : ℕ) → List ℕ → List ℕ
line a b d n s =
    let t = slice_set s a (add32 (slice_index s a) (slice_index s b)) in
    slice_set t d (rotl n (bit_xor (slice_index t d) (slice_index t a)))

-- QUARTERROUND(a, b, c, d) on the state (section 2.2).
abbrev pub quarter_round : (a b c d : ℕ) → List ℕ → List ℕ
quarter_round a b c d s = line c d b 7 (line a b d 8 (line c d b 12 (line a b d 16 s)))

-- Two rounds: four quarter rounds on the columns, four on the diagonals
-- (section 2.3). The first to be done stands innermost.
abbrev pub double_round : List ℕ → List ℕ
double_round s =
    quarter_round 3 4 9 14 (quarter_round 2 7 8 13 (quarter_round 1 6 11 12 (quarter_round 0 5 10 15
    (quarter_round 3 7 11 15 (quarter_round 2 6 10 14 (quarter_round 1 5 9 13 (quarter_round 0 4 8 12 s)))))))

-- so many double rounds, one after the other
abbrev pub double_rounds : (n : ℕ) → List ℕ → List ℕ
double_rounds zero s = s
double_rounds (suc n) s = double_round (double_rounds n s)

-- The word that four bytes spell from an index on, lowest byte first.
abbrev pub word_at : (bytes : List ℕ) (i : ℕ) → ℕ
word_at bytes i = slice_index bytes i + slice_index bytes (i + 1) * 256 + slice_index bytes (i + 2) * 65536 + slice_index bytes (i + 3) * 16777216

-- The words that bytes spell, four bytes to a word, lowest byte first.
abbrev pub words : List ℕ → List ℕ
words [] = []
words (a ∷ []) = []
words (a ∷ b ∷ []) = []
words (a ∷ b ∷ c ∷ []) = []
words (a ∷ b ∷ c ∷ d ∷ bytes) = (a + b * 256 + c * 65536 + d * 16777216) ∷ words bytes

-- The bytes of words, four to a word, lowest byte first (serialisation).
abbrev pub serialised : List ℕ → List ℕ
serialised [] = []
serialised (w ∷ ws) = (w % 256) ∷ (w / 256 % 256) ∷ (w / 65536 % 256) ∷ (w / 16777216 % 256) ∷ serialised ws

-- The state that a block begins with (section 2.3): four constants, the eight
-- words of the key, the block count, the three words of the nonce.
unfoldable pub start : (key nonce : List ℕ) (count : ℕ) → List ℕ
start key nonce count = 0x61707865 ∷ 0x3320646e ∷ 0x79622d32 ∷ 0x6b206574 ∷ (words key ++ count ∷ words nonce)

-- The block function (section 2.3) with 2 n rounds in the place of 20: the
-- double rounds, and then the state that they began with added word by word.
abbrev pub mixed : (n : ℕ) → List ℕ → List ℕ
mixed n s = zip2 add32 (double_rounds n s) s

unfoldable pub block : (n : ℕ) (key nonce : List ℕ) (count : ℕ) → List ℕ
block n key nonce count = serialised (mixed n (start key nonce count))

-- The byte of the key stream at a place (section 2.4): block counts go up by
-- one, from 0, and each block has 64 bytes.
unfoldable pub byte_at : (n : ℕ) (key nonce : List ℕ) (place : ℕ) → ℕ
byte_at n key nonce place = slice_index (block n key nonce (place / 64)) (place % 64)
