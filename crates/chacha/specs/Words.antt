-- Words read from bytes, and words written as bytes.
use Rattle.std.specs.Prelude.{◌≡◌, ℕ, zero, suc, ◌+◌, ◌-◌, ◌*◌, ◌/◌, ◌%◌, ◌<◌, ◌≤◌, List, [], ◌∷◌, ◌++◌, length, take, drop, slice_set, slice_index, slice_index_or, refl}
use Rattle.std.proofs.Common.{sym, ap, ◌∙◌, append_assoc, arith}
use Rattle.std.proofs.lemmas.List.{drop_all, drop-drop, take_more, take_at, drop_at, length-drop, length-take-le, set-append_right}
use Rattle.stream.proofs.Fours.{drop_four}
use Rattle.chacha.specs.ChaCha.{words, word_at, serialised, mixed, start, byte_at}
use Rattle.chacha.specs.ChaCha as ChaCha

pub words_from : (xs : List ℕ) (i j : ℕ) → i + 4 ≤ length xs → i + 4 ≡ j → words (drop i xs) ≡ word_at xs i ∷ words (drop j xs)
words_from xs i j h e = ap words (drop_four xs i h) ∙ ap (λ k. word_at xs i ∷ words (drop k xs)) e

pub words_end : (xs : List ℕ) (i : ℕ) → length xs ≡ i → words (drop i xs) ≡ []
words_end xs i h = ap words (drop_all i xs (omega arith))

abbrev pub bytes : ℕ → List ℕ
bytes w = (w % 256) ∷ (w / 256 % 256) ∷ (w / 65536 % 256) ∷ (w / 16777216 % 256) ∷ []

pub length_serialised : (ws : List ℕ) → length (serialised ws) ≡ 4 * length ws
length_serialised [] = refl
length_serialised (w ∷ ws) = let h = length_serialised ws in omega arith

pub serialised_append : (xs ys : List ℕ) → serialised (xs ++ ys) ≡ serialised xs ++ serialised ys
serialised_append [] ys = refl
serialised_append (x ∷ xs) ys = ap (λ zs. bytes x ++ zs) (serialised_append xs ys)

-- one more word written, its bytes at once
pub write_part : (s zs out part : List ℕ) (j : ℕ) → j < length s → out ≡ serialised (take j s) ++ drop (4 * j) zs → part ≡ bytes (slice_index s j) → take (4 * j) out ++ (part ++ drop 4 (drop (4 * j) out)) ≡ serialised (take (j + 1) s) ++ drop (4 * (j + 1)) zs
write_part s zs out part j lt inv is =
    let p = serialised (take j s) in
    let w = slice_index_or s j 0 in
    let rest = drop (4 * j) zs in
    let n : 4 * j + 4 ≡ 4 * (j + 1) = omega arith in
    let l : length p ≡ 4 * j = length_serialised (take j s) ∙ ap (λ k. 4 * k) (length-take-le j s (omega arith)) in
    let more : serialised (take (j + 1) s) ≡ p ++ bytes w = ap serialised (take_more s j 0 lt) ∙ serialised_append (take j s) (w ∷ []) in
    ap (λ x. x ++ (part ++ drop 4 (drop (4 * j) out))) (ap (take (4 * j)) inv ∙ take_at p rest (4 * j) l)
    ∙ ap (λ x. p ++ (part ++ drop 4 x)) (ap (drop (4 * j)) inv ∙ drop_at p rest (4 * j) l)
    ∙ ap (λ x. p ++ (x ++ drop 4 rest)) is
    ∙ sym (append_assoc p (bytes w) (drop 4 rest))
    ∙ ap (λ bs. bs ++ drop 4 rest) (sym more)
    ∙ ap (λ t. serialised (take (j + 1) s) ++ t) (drop-drop 4 (4 * j) zs ∙ ap (λ k. drop k zs) n)

-- four elements written after p
set_four : (p zs : List ℕ) (n a b c d : ℕ) → length p ≡ n → 4 ≤ length zs → slice_set (slice_set (slice_set (slice_set (p ++ zs) n a) (n + 1) b) (n + 2) c) (n + 3) d ≡ p ++ a ∷ b ∷ c ∷ d ∷ drop 4 zs
set_four p [] n a b c d l h = absurd (omega arith)
set_four p (z0 ∷ []) n a b c d l h = absurd (omega arith)
set_four p (z0 ∷ z1 ∷ []) n a b c d l h = absurd (omega arith)
set_four p (z0 ∷ z1 ∷ z2 ∷ []) n a b c d l h = absurd (omega arith)
set_four p (z0 ∷ z1 ∷ z2 ∷ z3 ∷ zs) n a b c d l h =
    let i0 : n - n ≡ 0 = omega arith in
    let i1 : (n + 1) - n ≡ 1 = omega arith in
    let i2 : (n + 2) - n ≡ 2 = omega arith in
    let i3 : (n + 3) - n ≡ 3 = omega arith in
    let s0 : slice_set (p ++ z0 ∷ z1 ∷ z2 ∷ z3 ∷ zs) n a ≡ p ++ a ∷ z1 ∷ z2 ∷ z3 ∷ zs = set-append_right p (z0 ∷ z1 ∷ z2 ∷ z3 ∷ zs) n n a l (omega arith) ∙ ap (λ i. p ++ slice_set (z0 ∷ z1 ∷ z2 ∷ z3 ∷ zs) i a) i0 in
    let s1 : slice_set (p ++ a ∷ z1 ∷ z2 ∷ z3 ∷ zs) (n + 1) b ≡ p ++ a ∷ b ∷ z2 ∷ z3 ∷ zs = set-append_right p (a ∷ z1 ∷ z2 ∷ z3 ∷ zs) n (n + 1) b l (omega arith) ∙ ap (λ i. p ++ slice_set (a ∷ z1 ∷ z2 ∷ z3 ∷ zs) i b) i1 in
    let s2 : slice_set (p ++ a ∷ b ∷ z2 ∷ z3 ∷ zs) (n + 2) c ≡ p ++ a ∷ b ∷ c ∷ z3 ∷ zs = set-append_right p (a ∷ b ∷ z2 ∷ z3 ∷ zs) n (n + 2) c l (omega arith) ∙ ap (λ i. p ++ slice_set (a ∷ b ∷ z2 ∷ z3 ∷ zs) i c) i2 in
    let s3 : slice_set (p ++ a ∷ b ∷ c ∷ z3 ∷ zs) (n + 3) d ≡ p ++ a ∷ b ∷ c ∷ d ∷ zs = set-append_right p (a ∷ b ∷ c ∷ z3 ∷ zs) n (n + 3) d l (omega arith) ∙ ap (λ i. p ++ slice_set (a ∷ b ∷ c ∷ z3 ∷ zs) i d) i3 in
    cc

-- one more word written byte by byte
pub write_more : (s zs out : List ℕ) (j a b c d : ℕ) → j < length s → 4 * length s ≡ length zs → out ≡ serialised (take j s) ++ drop (4 * j) zs → a ∷ b ∷ c ∷ d ∷ [] ≡ bytes (slice_index s j) → slice_set (slice_set (slice_set (slice_set out (4 * j) a) (4 * j + 1) b) (4 * j + 2) c) (4 * j + 3) d ≡ serialised (take (j + 1) s) ++ drop (4 * (j + 1)) zs
write_more s zs out j a b c d lt all inv is =
    let p = serialised (take j s) in
    let w = slice_index_or s j 0 in
    let n : 4 * j + 4 ≡ 4 * (j + 1) = omega arith in
    let l : length p ≡ 4 * j = length_serialised (take j s) ∙ ap (λ k. 4 * k) (length-take-le j s (omega arith)) in
    let four : 4 ≤ length (drop (4 * j) zs) = omega (arith, length-drop (4 * j) zs) in
    let more : serialised (take (j + 1) s) ≡ p ++ bytes w = ap serialised (take_more s j 0 lt) ∙ serialised_append (take j s) (w ∷ []) in
    ap (λ o. slice_set (slice_set (slice_set (slice_set o (4 * j) a) (4 * j + 1) b) (4 * j + 2) c) (4 * j + 3) d) inv
    ∙ set_four p (drop (4 * j) zs) (4 * j) a b c d l four
    ∙ ap (λ bs. p ++ (bs ++ drop 4 (drop (4 * j) zs))) is
    ∙ sym (append_assoc p (bytes w) (drop 4 (drop (4 * j) zs)))
    ∙ ap (λ bs. bs ++ drop 4 (drop (4 * j) zs)) (sym more)
    ∙ ap (λ t. serialised (take (j + 1) s) ++ t) (drop-drop 4 (4 * j) zs ∙ ap (λ k. drop k zs) n)

-- what is written of words are bytes
pub serialised_byte : (ws : List ℕ) (i : ℕ) → slice_index (serialised ws) i < 256
serialised_byte [] i = omega arith
serialised_byte (w ∷ ws) zero = omega arith
serialised_byte (w ∷ ws) (suc zero) = omega arith
serialised_byte (w ∷ ws) (suc (suc zero)) = omega arith
serialised_byte (w ∷ ws) (suc (suc (suc zero))) = omega arith
serialised_byte (w ∷ ws) (suc (suc (suc (suc i)))) = serialised_byte ws i

-- what stands in ChaCha's stream are bytes
pub stream_byte : (doubles : ℕ) (seed nonce : List ℕ) (place : ℕ) → byte_at doubles seed nonce place < 256
unfolding byte_at ChaCha.block
stream_byte doubles seed nonce place = serialised_byte (mixed doubles (start seed nonce (place / 64))) (place % 64)
