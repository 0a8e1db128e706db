-- The subkeys of a key.
use Rattle.std.proofs.Common.{◌≡◌, ℕ, zero, suc, ◌+◌, ◌-◌, ◌*◌, ◌/◌, ◌%◌, ◌^◌, ◌<◌, ◌≤◌, List, [], ◌∷◌, ◌++◌, length, get_or, take, drop, replicate, sym, refl, ap, ◌∙◌, ⊎_elim, mod-eq_of_lt, suc-mul, zero-mul, arith}
use native.Mathlib.Nat.{mod-eq-sub-mod}
use Rattle.std.proofs.lemmas.List.{length-append, length-take-le, get_or_append_left, get_or-append_right, get_or-take, ext_get_or, take-replicate, drop-replicate, take-append-le, drop-append-le, length-drop}
use Rattle.std.proofs.lemmas.Bool.{cases_lt}
use Rattle.hash.specs.declared.Strength.{Strength}
use Rattle.hash.specs.declared.Strength.TheVariants.{Lo, Mid, Hi}
use Rattle.hash.specs.declared.HashKeys.{HashKeys}
use Rattle.hash.specs.Strength.{hashes, nh_words, siv_length, subkey_bytes}
use Rattle.hash.specs.Bytes.{str, ints}
use Rattle.hash.specs.Hash.{hashed, below60}
use Rattle.hash.specs.Subkeys.{kn_of, kp_of, ka_of, hashed_by, Reads}
use Rattle.hash.proofs.Whole.{hashed_read, hashes_le}
use Rattle.stream.specs.Stream.{StreamOf, run, masked}
use Rattle.stream.proofs.Masks.{length_run}
use Rattle.hs1.specs.Hs1.{repeated, subkey_seed, subkey_nonce, subkeys}
use Rattle.hs1.specs.Derived.{Derived}

pub length_repeated : (n : ℕ) (key : List ℕ) → length (repeated n key) ≡ n * length key
length_repeated zero key = sym (zero-mul (length key))
length_repeated (suc n) key =
    let e = length-append key (repeated n key) in
    let f = length_repeated n key in
    omega (arith, suc-mul n (length key))

-- the byte i of a key that is repeated
pub repeated_at : (n : ℕ) (key : List ℕ) (i : ℕ) → 0 < length key → i < n * length key → get_or (repeated n key) i 0 ≡ get_or key (i % length key) 0
repeated_at zero key i some lt = absurd (omega (arith, zero-mul (length key)))
repeated_at (suc n) key i some lt =
    let l = length key in
    ⊎_elim
    (λ (h : i < l). get_or_append_left key (repeated n key) 0 i h ∙ ap (λ x. get_or key x 0) (sym (mod-eq_of_lt h)))
    (λ (h : l ≤ i).
    get_or-append_right key (repeated n key) l i 0 refl h
    ∙ repeated_at n key (i - l) some (omega (arith, suc-mul n l))
    ∙ ap (λ x. get_or key x 0) (sym (mod-eq-sub-mod h)))
    (cases_lt i l)

pub seed_is : (key seed : List ℕ) → 0 < length key → length seed ≡ 32 → ((k : ℕ) → k < 32 → get_or seed k 0 ≡ get_or key (k % length key) 0) → seed ≡ subkey_seed key
unfolding subkey_seed
seed_is key seed some l at =
    let r = repeated 32 key in
    let n : length (take 32 r) ≡ 32 = length-take-le 32 r (omega (arith, length_repeated 32 key)) in
    ext_get_or 0 seed (take 32 r) (l ∙ sym n)
    (λ i h. at i (omega arith) ∙ sym (get_or-take 32 r i 0 (omega arith) ∙ repeated_at 32 key i some (omega arith)))

-- the bytes of a number of 64 bits, and zeros behind
pub str_twelve : (v : ℕ) → v < 2 ^ 64 → str 8 v ++ (0 ∷ 0 ∷ 0 ∷ 0 ∷ []) ≡ str 12 v
str_twelve v h =
    let z : v / 256 / 256 / 256 / 256 / 256 / 256 / 256 / 256 ≡ 0 = omega arith in
    ap (λ (x : ℕ). str 8 v ++ (x % 256 ∷ x / 256 % 256 ∷ x / 256 / 256 % 256 ∷ x / 256 / 256 / 256 % 256 ∷ [])) (sym z)

-- zeros, masked
pub masked_zeros : (f : ℕ → ℕ) (p n : ℕ) → masked f p (replicate n 0) ≡ run f p n
masked_zeros f p zero = refl
masked_zeros f p (suc n) = ap (λ x. f p ∷ x) (masked_zeros f (suc p) n)

-- a part of the front of a list
pub part_front : (a n : ℕ) (xs ys : List ℕ) → a + n ≤ length xs → take n (drop a (xs ++ ys)) ≡ take n (drop a xs)
part_front a n xs ys h =
    ap (take n) (drop-append-le a xs ys (omega arith)) ∙ take-append-le n (drop a xs) ys (omega (arith, length-drop a xs))

pub subkeys_fit : (s : Strength) → (32 ≤ subkey_bytes s) × (subkey_bytes s ≤ 368)
subkeys_fit Lo = omega arith
subkeys_fit Mid = omega arith
subkeys_fit Hi = omega arith

-- the subkeys look at no more than the bytes of their strength
pub hashed_by_front : (s : Strength) (bytes rest m : List ℕ) → length bytes ≡ subkey_bytes s → hashed_by s (bytes ++ rest) m ≡ hashed_by s bytes m
unfolding hashed_by
hashed_by_front s bytes rest m l =
    let b = 32 + 4 * nh_words s in
    let c = 32 + 4 * nh_words s + 8 * hashes s in
    ap (λ x. hashed s (ints 4 x) (kp_of s (bytes ++ rest)) (ka_of s (bytes ++ rest)) m) (part_front 32 (4 * nh_words s) bytes rest (omega arith))
    ∙ ap (λ x. hashed s (kn_of s bytes) (below60 (ints 8 x)) (ka_of s (bytes ++ rest)) m) (part_front b (8 * hashes s) bytes rest (omega arith))
    ∙ ap (λ x. hashed s (kn_of s bytes) (kp_of s bytes) (ints 8 x) m) (part_front c (24 * hashes s) bytes rest (omega arith))

-- what the code masks is the bytes of the subkeys
pub bytes_are : (f : StreamOf) (s : Strength) (key seed nonce part : List ℕ) (r n : ℕ) → seed ≡ subkey_seed key → nonce ≡ subkey_nonce s r (length key) → r ≡ f.rounds → n ≡ subkey_bytes s → part ≡ masked (f.byte seed nonce) 0 (take n (replicate 368 0)) → part ++ drop n (replicate 368 0) ≡ subkeys f s key ++ replicate (368 - subkey_bytes s) 0
unfolding subkeys
bytes_are f s key seed nonce part r n e g h i p =
    let fits = subkeys_fit s in
    let q : part ≡ subkeys f s key =
    p
    ∙ ap (λ x. masked (f.byte seed nonce) 0 (take x (replicate 368 0))) i
    ∙ ap (masked (f.byte seed nonce) 0) (take-replicate (subkey_bytes s) 368 0 fits.1)
    ∙ masked_zeros (f.byte seed nonce) 0 (subkey_bytes s)
    ∙ ap (λ x. run (f.byte x nonce) 0 (subkey_bytes s)) e
    ∙ ap (λ x. run (f.byte (subkey_seed key) x) 0 (subkey_bytes s)) (g ∙ ap (λ x. subkey_nonce s x (length key)) h)
    in
    ap (λ x. x ++ drop n (replicate 368 0)) q
    ∙ ap (λ x. subkeys f s key ++ drop x (replicate 368 0)) i
    ∙ ap (λ x. subkeys f s key ++ x) (drop-replicate (subkey_bytes s) 368 0)

pub length_subkeys : (f : StreamOf) (s : Strength) (key : List ℕ) → length (subkeys f s key) ≡ subkey_bytes s
unfolding subkeys
length_subkeys f s key = length_run (f.byte (subkey_seed key) (subkey_nonce s f.rounds (length key))) 0 (subkey_bytes s)

pub derived : (f : StreamOf) (s : Strength) (key bytes rest ks nonce : List ℕ) (hash : HashKeys) → bytes ≡ subkeys f s key ++ rest → ks ≡ take 32 bytes → Reads s bytes hash → Derived f s key (record { ks = ks; hash = hash; nonce = nonce })
derived f s key bytes rest ks nonce hash e k r =
    let l = length_subkeys f s key in
    record {
      ks_is = k ∙ ap (take 32) e ∙ take-append-le 32 (subkeys f s key) rest (omega (arith, (subkeys_fit s).0));
      hash_is = λ m. hashed_read s bytes hash m r ∙ ap (λ x. hashed_by s x m) e ∙ hashed_by_front s (subkeys f s key) rest m l;
    }

-- the nonce of the subkeys, written as eight bytes of a number and four zeros
pub siv_short : (s : Strength) → siv_length s ≤ 32
siv_short Lo = omega arith
siv_short Mid = omega arith
siv_short Hi = omega arith

pub nonce_is : (s : Strength) (rounds key h l v : ℕ) → h ≡ hashes s → l ≡ siv_length s → rounds < 256 → key ≤ 32 → v ≡ 64 * 2 ^ 48 + h * 2 ^ 40 + rounds * 2 ^ 32 + l * 2 ^ 16 + key → str 8 v ++ (0 ∷ 0 ∷ 0 ∷ 0 ∷ []) ≡ subkey_nonce s rounds key
unfolding subkey_nonce
nonce_is s rounds key h l v e g r k i =
    let a = hashes_le s in
    let b = siv_short s in
    let w : v ≡ 64 * 2 ^ 48 + hashes s * 2 ^ 40 + rounds * 2 ^ 32 + siv_length s * 2 ^ 16 + key = omega arith in
    str_twelve v (omega arith) ∙ ap (str 12) w
