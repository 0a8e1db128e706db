-- Slices as arrays of n elements.
use Rattle.std.proofs.Common.{◌≡◌, ℕ, zero, suc, ◌+◌, ◌*◌, ◌/◌, ◌<◌, ◌≤◌, List, [], ◌∷◌, ◌++◌, length, get_or, take, drop, set, map, sym, refl, ap, ◌∙◌, mul-zero, mul-suc, arith}
use Rattle.std.proofs.lemmas.List.{drop-drop, get_or-take, get_or-drop, take_more, take_more_set, take_all, map-append}
use Rattle.std.specs.Simd.{first_chunks}
use Rattle.hash.specs.Bytes.{number, ints_of, ints}

-- how many chunks, and which elements chunk i has
pub length_chunks : {X : Type 0} (n count : ℕ) (xs : List X) → length (first_chunks n count xs) ≡ count
length_chunks n zero xs = refl
length_chunks n (suc count) xs = ap suc (length_chunks n count (drop n xs))

pub chunk_is : {X : Type 0} (n count : ℕ) (xs : List X) (i : ℕ) (d : List X) → i < count → get_or (first_chunks n count xs) i d ≡ take n (drop (n * i) xs)
chunk_is n zero xs i d h = absurd (omega arith)
chunk_is n (suc count) xs zero d h = rw mul-zero refl
chunk_is n (suc count) xs (suc i) d h =
    let e : n + n * i ≡ n * suc i = omega (arith, mul-suc n i) in
    chunk_is n count (drop n xs) i d (omega arith) ∙ ap (take n) (drop-drop (n * i) n xs ∙ ap (λ x. drop x xs) e)

-- element j of chunk i
pub chunk_at : (n count : ℕ) (xs chunk : List ℕ) (i j : ℕ) → chunk ≡ get_or (first_chunks n count xs) i [] → i < count → j < n → get_or chunk j 0 ≡ get_or xs (n * i + j) 0
chunk_at n count xs chunk i j e lt h =
    ap (λ x. get_or x j 0) (e ∙ chunk_is n count xs i [] lt) ∙ get_or-take n (drop (n * i) xs) j 0 h ∙ get_or-drop (n * i) xs j 0

-- the numbers that chunks write
pub numbers_of_chunks : (n count : ℕ) (s : List ℕ) → map number (first_chunks n count s) ≡ ints_of n count s
numbers_of_chunks n zero s = refl
numbers_of_chunks n (suc count) s = ap (λ x. number (take n s) ∷ x) (numbers_of_chunks n count (drop n s))

-- one more word read from its bytes
pub words_more : {W : Type 0} (value : W → ℕ) (out : List W) (words : List (List ℕ)) (i : ℕ) (w : W) (bytes : List ℕ) → i < length out → i < length words → value w ≡ number bytes → bytes ≡ get_or words i bytes → map value (take i out) ≡ map number (take i words) → map value (take (i + 1) (set out i w)) ≡ map number (take (i + 1) words)
words_more value out words i w bytes lo lw e f h =
    ap (map value) (take_more_set out i w lo)
    ∙ map-append value (take i out) (w ∷ [])
    ∙ ap (λ x. x ++ value w ∷ []) h
    ∙ ap (λ x. map number (take i words) ++ x ∷ []) (e ∙ ap number f)
    ∙ sym (map-append number (take i words) (get_or words i bytes ∷ []))
    ∙ ap (map number) (sym (take_more words i bytes lw))

-- all words read
pub words_all : {W : Type 0} (value : W → ℕ) (out : List W) (words : List (List ℕ)) (n : ℕ) (s : List ℕ) (i : ℕ) → words ≡ first_chunks n (length s / n) s → length s / n ≡ length out → length words ≤ i → map value (take i out) ≡ map number (take i words) → map value out ≡ ints n s
words_all value out words n s i e l le h =
    let c : length words ≡ length s / n = ap length e ∙ length_chunks n (length s / n) s in
    ap (map value) (sym (take_all i out (omega arith)))
    ∙ h
    ∙ ap (map number) (take_all i words le ∙ e)
    ∙ numbers_of_chunks n (length s / n) s
