-- Lists made of parts: the expanded key by words, the rounds by round keys, a
-- block of 64 bytes by four of 16.
use Rattle.std.proofs.Common.{◌≡◌, ℕ, zero, suc, ◌+◌, ◌-◌, ◌*◌, ◌/◌, ◌%◌, ◌<◌, ◌≤◌, List, [], ◌∷◌, ◌++◌, map, length, get_or, take, drop, bit_xor, sym, refl, ap, ◌∙◌, add-one, append-nil, arith}
use Rattle.std.specs.Simd.Lanes.{zip2}
use Rattle.std.specs.Simd.{first_chunks}
use Rattle.std.specs.List.{range_with_len}
use borrow.Rule.Slice.PartMut.{put_mid}
use Rattle.std.proofs.lemmas.List.{ext_get_or, length-append, length-take-le, length-drop, drop-drop, get_or-take, take_at, drop_at}
use Rattle.std.proofs.lemmas.Grind.{get_or_after_one}
use Rattle.std.proofs.lemmas.Slice.{take-put_mid}
use Rattle.stream.specs.Stream.{run}
use Rattle.stream.proofs.Masks.{length_run, get_or_run, run_append}
use Rattle.aes.specs.Aes.{key_byte, grown, sub_bytes, shift_rows, mix_columns, add_round_key, full_rounds, encrypted, four_bytes, byte_under}

pub length_put_mid : (a n : ℕ) (xs ys : List ℕ) → length ys ≡ n → a + n ≤ length xs → length (put_mid a n xs ys) ≡ length xs
length_put_mid a n xs ys l h =
    omega (arith, length-append (take a xs) (ys ++ drop n (drop a xs)), length-append ys (drop n (drop a xs)), length-take-le a xs (omega arith), length-drop n (drop a xs), length-drop a xs)

-- a byte of a word depends on the words before it alone
pub key_byte_front : (w : List ℕ) (i k : ℕ) → 8 ≤ i → k < 4 → key_byte w i k ≡ key_byte (take (4 * i) w) i k
key_byte_front w i k h lt =
    let x : get_or (take (4 * i) w) (4 * (i - 8) + k) 0 ≡ get_or w (4 * (i - 8) + k) 0 = get_or-take (4 * i) w (4 * (i - 8) + k) 0 (omega arith) in
    let y : get_or (take (4 * i) w) (4 * (i - 1) + (k + 1) % 4) 0 ≡ get_or w (4 * (i - 1) + (k + 1) % 4) 0 = get_or-take (4 * i) w (4 * (i - 1) + (k + 1) % 4) 0 (omega arith) in
    let z : get_or (take (4 * i) w) (4 * (i - 1) + k) 0 ≡ get_or w (4 * (i - 1) + k) 0 = get_or-take (4 * i) w (4 * (i - 1) + k) 0 (omega arith) in
    cc

-- a word more of the expanded key
pub word_more : (key w word : List ℕ) (i : ℕ) → 8 ≤ i → 4 * i + 4 ≤ length w → ((n : ℕ) → n + 8 ≡ i → take (4 * i) w ≡ grown key n) → word ≡ map (λ k. key_byte w i k) (range_with_len 0 4) → (n : ℕ) → n + 8 ≡ i + 1 → take (4 * (i + 1)) (put_mid (4 * i) 4 w word) ≡ grown key n
word_more key w word i ge le inv is zero e = absurd (omega arith)
word_more key w word i ge le inv is (suc n) e =
    let m : n + 8 ≡ i = omega arith in
    let w' = grown key n in
    let byte : (k : ℕ) → k < 4 → key_byte w i k ≡ key_byte w' (n + 8) k = λ k lt. key_byte_front w i k ge lt ∙ ap (λ x. key_byte x i k) (inv n m) ∙ ap (λ x. key_byte w' x k) (sym m) in
    let b0 = byte 0 (omega arith) in
    let b1 = byte 1 (omega arith) in
    let b2 = byte 2 (omega arith) in
    let b3 = byte 3 (omega arith) in
    let same : word ≡ key_byte w' (n + 8) 0 ∷ key_byte w' (n + 8) 1 ∷ key_byte w' (n + 8) 2 ∷ key_byte w' (n + 8) 3 ∷ [] = is ∙ cc in
    take-put_mid (4 * i) 4 w word (4 * (i + 1)) (omega (arith, ap length same)) (omega arith)
    ∙ ap (λ x. x ++ word) (inv n m) ∙ ap (λ x. w' ++ x) same

-- a round key is a chunk of 16 bytes
pub chunk_at : (k i : ℕ) (xs : List ℕ) → i < k → get_or (first_chunks 16 k xs) i [] ≡ take 16 (drop (16 * i) xs)
chunk_at zero i xs h = absurd (omega arith)
chunk_at (suc k) zero xs h = refl
chunk_at (suc k) (suc i) xs h =
    let e : 16 + 16 * i ≡ 16 * suc i = omega arith in
    chunk_at k i (drop 16 xs) (omega arith) ∙ ap (take 16) (drop-drop (16 * i) 16 xs ∙ ap (λ j. drop j xs) e)

-- a full round more, with the next of the thirteen round keys in the middle
pub round_more : (w block s s1 : List ℕ) (keys : List (List ℕ)) (n : ℕ) → keys ≡ first_chunks 16 15 w → n < 13 → s ≡ full_rounds w n block → s1 ≡ zip2 bit_xor (mix_columns (shift_rows (sub_bytes s))) (get_or (take 13 (drop 1 keys)) n []) → s1 ≡ full_rounds w (n + 1) block
round_more w block s s1 keys n all lt inv e =
    let mixed = mix_columns (shift_rows (sub_bytes s)) in
    let key : get_or (take 13 (drop 1 keys)) n [] ≡ take 16 (drop (16 * (1 + n)) w) =
    get_or-take 13 (drop 1 keys) n [] lt ∙ get_or_after_one keys n [] ∙ ap (λ x. get_or x (1 + n) []) all ∙ chunk_at 15 (1 + n) w (omega arith) in
    let o : 1 + n ≡ suc n = omega arith in
    e ∙ ap (zip2 bit_xor mixed) key ∙ ap (λ k. zip2 bit_xor mixed (take 16 (drop (16 * k) w))) o
    ∙ ap (λ x. add_round_key w (suc n) (mix_columns (shift_rows (sub_bytes x)))) inv
    ∙ ap (λ k. full_rounds w k block) (sym (add-one n))

-- what is encrypted for block j of 16 bytes
pub tail_written : (nonce count : List ℕ) (a b c d : ℕ) → length nonce ≡ 12 → put_mid 12 4 (nonce ++ a ∷ b ∷ c ∷ d ∷ []) count ≡ nonce ++ count
tail_written nonce count a b c d l =
    let rest = a ∷ b ∷ c ∷ d ∷ [] in
    ap (λ x. x ++ (count ++ drop 4 (drop 12 (nonce ++ rest)))) (take_at nonce rest 12 l)
    ∙ ap (λ x. nonce ++ (count ++ drop 4 x)) (drop_at nonce rest 12 l)
    ∙ ap (λ x. nonce ++ x) (append-nil count)

-- the block q of 16 bytes in the block i of 64
pub part_is : (w nonce part : List ℕ) (i q j : ℕ) → length part ≡ 16 → ((k : ℕ) → get_or part k 0 < 256) → part ≡ encrypted w (nonce ++ four_bytes j) → j ≡ 4 * i + q → part ≡ run (byte_under w nonce) (64 * i + 16 * q) 16
part_is w nonce part i q j l fits is at =
    let p = 64 * i + 16 * q in
    ext_get_or 0 part (run (byte_under w nonce) p 16) (l ∙ sym (length_run (byte_under w nonce) p 16))
    (λ m h.
    let block : j ≡ (p + m) / 16 = omega arith in
    let byte : m ≡ (p + m) % 16 = omega arith in
    let small : get_or part m 0 ≡ get_or part m 0 % 256 = omega (arith, fits m) in
    small
    ∙ ap (λ x. get_or x m 0 % 256) is
    ∙ ap (λ x. get_or (encrypted w (nonce ++ four_bytes x)) m 0 % 256) block
    ∙ ap (λ x. get_or (encrypted w (nonce ++ four_bytes ((p + m) / 16))) x 0 % 256) byte
    ∙ sym (get_or_run (byte_under w nonce) p 16 m 0 (omega arith)))

-- four parts of 16 bytes are a block of 64
pub four_parts : (f : ℕ → ℕ) (p : ℕ) → run f (p + 16 * 0) 16 ++ (run f (p + 16 * 1) 16 ++ (run f (p + 16 * 2) 16 ++ (run f (p + 16 * 3) 16 ++ []))) ≡ run f p 64
four_parts f p =
    let a : (p + 16) + 16 ≡ p + 32 = omega arith in
    let b : (p + 32) + 16 ≡ p + 48 = omega arith in
    let z : p + 0 ≡ p = omega arith in
    ap (λ x. run f x 16 ++ (run f (p + 16) 16 ++ (run f (p + 32) 16 ++ (run f (p + 48) 16 ++ [])))) z
    ∙ ap (λ x. run f p 16 ++ (run f (p + 16) 16 ++ (run f (p + 32) 16 ++ x))) (append-nil (run f (p + 48) 16))
    ∙ ap (λ x. run f p 16 ++ (run f (p + 16) 16 ++ x)) (sym (run_append f 16 16 (p + 32) ∙ ap (λ x. run f (p + 32) 16 ++ run f x 16) b))
    ∙ ap (λ x. run f p 16 ++ x) (sym (run_append f 16 32 (p + 16) ∙ ap (λ x. run f (p + 16) 16 ++ run f x 32) a))
    ∙ sym (run_append f 16 48 p)
