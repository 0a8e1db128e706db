-- Laws of `run` and `masked`.
use Rattle.std.proofs.Common.{◌≡◌, ℕ, zero, suc, ◌+◌, ◌-◌, ◌*◌, ◌/◌, ◌%◌, ◌<◌, ◌≤◌, List, [], ◌∷◌, ◌++◌, length, get_or, take, drop, sym, refl, ap, ◌∙◌, append_assoc, add-zero, arith, take-add}
use lib.Lanes.{zip2}
use lib.Bits.{bit_xor, xor_assoc, xor_self, xor_zero_r}
use borrow.Rule.Slice.PartMut.{put_mid}
use Rattle.std.proofs.lemmas.List.{append-nil, take_all, drop_all, take_at, drop_at, drop-drop, length-take-le, length-drop, ext_get_or}
use Rattle.std.proofs.Math.Seq.{drop-nil}
use Rattle.stream.specs.Stream.{run, masked}

module _ (f : ℕ → ℕ) where
  pub length_run : (p n : ℕ) → length (run f p n) ≡ n
  length_run p zero = refl
  length_run p (suc n) = ap suc (length_run (suc p) n)

  pub get_or_run : (p n i d : ℕ) → i < n → get_or (run f p n) i d ≡ f (p + i)
  get_or_run p zero i d h = absurd (omega arith)
  get_or_run p (suc n) zero d h = rw add-zero refl
  get_or_run p (suc n) (suc i) d h = get_or_run (suc p) n i d (omega arith) ∙ ap f (omega arith)

  pub drop_run : (k p n : ℕ) → drop k (run f p n) ≡ run f (p + k) (n - k)
  drop_run zero p n = let a : p + 0 ≡ p = omega arith in let b : n - 0 ≡ n = omega arith in rw (a, b) refl
  drop_run (suc k) p zero = let b : 0 - suc k ≡ 0 = omega arith in rw b refl
  drop_run (suc k) p (suc n) =
      let a : suc p + k ≡ p + suc k = omega arith in
      let b : n - k ≡ suc n - suc k = omega arith in
      drop_run k (suc p) n ∙ ap (λ x. run f x (n - k)) a ∙ ap (run f (p + suc k)) b

  pub take_run : (k p n : ℕ) → k ≤ n → take k (run f p n) ≡ run f p k
  take_run zero p n h = refl
  take_run (suc k) p zero h = absurd (omega arith)
  take_run (suc k) p (suc n) h = ap (λ xs. f p ∷ xs) (take_run k (suc p) n (omega arith))

  pub run_append : (m n p : ℕ) → run f p (m + n) ≡ run f p m ++ run f (p + m) n
  run_append zero n p = let a : 0 + n ≡ n = omega arith in let b : p + 0 ≡ p = omega arith in rw (a, b) refl
  run_append (suc m) n p =
      let a : suc m + n ≡ suc (m + n) = omega arith in
      let b : suc p + m ≡ p + suc m = omega arith in
      ap (run f p) a ∙ ap (λ xs. f p ∷ xs) (run_append m n (suc p) ∙ ap (λ q. run f (suc p) m ++ run f q n) b)

  pub length_masked : (p : ℕ) (xs : List ℕ) → length (masked f p xs) ≡ length xs
  length_masked p [] = refl
  length_masked p (x ∷ xs) = ap suc (length_masked (suc p) xs)

  pub zip_run : (p n : ℕ) (xs : List ℕ) → zip2 bit_xor xs (run f p n) ++ drop (length (run f p n)) xs ≡ masked f p (take n xs) ++ drop n xs
  zip_run p zero [] = refl
  zip_run p zero (x ∷ xs) = refl
  zip_run p (suc n) [] = refl
  zip_run p (suc n) (x ∷ xs) = ap (λ ys. bit_xor x (f p) ∷ ys) (zip_run (suc p) n xs)

  pub masked_append : (p : ℕ) (xs ys : List ℕ) → masked f p (xs ++ ys) ≡ masked f p xs ++ masked f (p + length xs) ys
  masked_append p [] ys = let a : p ≡ p + 0 = omega arith in ap (λ q. masked f q ys) a
  masked_append p (x ∷ xs) ys =
      let a : suc p + length xs ≡ p + suc (length xs) = omega arith in
      ap (λ zs. bit_xor x (f p) ∷ zs) (masked_append (suc p) xs ys ∙ ap (λ q. masked f (suc p) xs ++ masked f q ys) a)

  -- masking twice gives back what was there
  pub masked_masked : (p : ℕ) (xs : List ℕ) → masked f p (masked f p xs) ≡ xs
  masked_masked p [] = refl
  masked_masked p (x ∷ xs) =
      let e : bit_xor (bit_xor x (f p)) (f p) ≡ x = xor_assoc x (f p) (f p) ∙ ap (bit_xor x) (xor_self (f p)) ∙ xor_zero_r x in
      ap (λ y. y ∷ masked f (suc p) (masked f (suc p) xs)) e ∙ ap (λ ys. x ∷ ys) (masked_masked (suc p) xs)

  -- a buffer of which the first a bytes are masked
  abbrev pub upto : ℕ → List ℕ → ℕ → List ℕ
  upto p was a = masked f p (take a was) ++ drop a was

  -- the first turn: the rest of a block, from its byte o on
  pub first_turn : (was part block : List ℕ) (p i o : ℕ) → block ≡ run f (64 * i) 64 → 64 * i + o ≡ p → part ≡ zip2 bit_xor was (take (64 - o) (drop o block)) ++ drop (length (take (64 - o) (drop o block))) was → part ≡ upto p was (64 - o)
  first_turn was part block p i o b is z =
      let d : take (64 - o) (drop o block) ≡ run f p (64 - o) =
      ap (λ x. take (64 - o) (drop o x)) b ∙ ap (take (64 - o)) (drop_run o (64 * i) 64) ∙ take_all (64 - o) (run f (64 * i + o) (64 - o)) (omega (arith, length_run (64 * i + o) (64 - o))) ∙ ap (λ q. run f q (64 - o)) is in
      z ∙ ap (λ ys. zip2 bit_xor was ys ++ drop (length ys) was) d ∙ zip_run p (64 - o) was

  -- one turn more: a whole block, as far as the buffer goes
  pub turn : (was buf part block : List ℕ) (p a i : ℕ) → a ≤ length was → buf ≡ upto p was a → block ≡ run f (64 * i) 64 → 64 * i ≡ p + a → part ≡ zip2 bit_xor (take (length buf - a) (drop a buf)) block ++ drop (length block) (take (length buf - a) (drop a buf)) → put_mid a (length buf - a) buf part ≡ upto p was (a + 64)
  turn was buf part block p a i le e b is z =
      let xs = masked f p (take a was) in
      let ys = drop a was in
      let t : length (take a was) ≡ a = length-take-le a was (omega arith) in
      let l : length xs ≡ a = length_masked p (take a was) ∙ t in
      let front : take a buf ≡ xs = ap (take a) e ∙ take_at xs ys a l in
      let back : drop a buf ≡ ys = ap (drop a) e ∙ drop_at xs ys a l in
      let none : drop (length buf - a) (drop a buf) ≡ [] = drop_all (length buf - a) (drop a buf) (omega (arith, length-drop a buf)) in
      let whole : take (length buf - a) (drop a buf) ≡ ys = take_all (length buf - a) (drop a buf) (omega (arith, length-drop a buf)) ∙ back in
      let here : block ≡ run f (p + a) 64 = b ∙ ap (λ q. run f q 64) is in
      let mid : part ≡ masked f (p + a) (take 64 ys) ++ drop 64 ys =
      z ∙ ap (λ x. zip2 bit_xor x block ++ drop (length block) x) whole ∙ ap (λ x. zip2 bit_xor ys x ++ drop (length x) ys) here ∙ zip_run (p + a) 64 ys in
      let all : masked f p (take (a + 64) was) ≡ xs ++ masked f (p + a) (take 64 ys) =
      ap (masked f p) (take-add a 64 was) ∙ masked_append p (take a was) (take 64 ys) ∙ ap (λ k. xs ++ masked f (p + k) (take 64 ys)) t in
      ap (λ x. take a buf ++ (part ++ x)) none
      ∙ ap (λ x. take a buf ++ x) (append-nil part)
      ∙ ap (λ x. x ++ part) front
      ∙ ap (λ x. xs ++ x) mid
      ∙ sym (append_assoc xs (masked f (p + a) (take 64 ys)) (drop 64 ys))
      ∙ ap (λ x. x ++ drop 64 ys) (sym all)
      ∙ ap (λ x. masked f p (take (a + 64) was) ++ x) (drop-drop 64 a was)

-- a block of 64 bytes out of a stream that is given block by block
pub run_block : (blocks : ℕ → List ℕ) (i : ℕ) → length (blocks i) ≡ 64 → blocks i ≡ run (λ p. get_or (blocks (p / 64)) (p % 64) 0) (64 * i) 64
run_block blocks i l =
    let f : ℕ → ℕ = λ p. get_or (blocks (p / 64)) (p % 64) 0 in
    ext_get_or 0 (blocks i) (run f (64 * i) 64) (l ∙ sym (length_run f (64 * i) 64))
    (λ k h.
    let q : i ≡ (64 * i + k) / 64 = omega arith in
    let r : k ≡ (64 * i + k) % 64 = omega arith in
    ap (λ j. get_or (blocks j) k 0) q ∙ ap (λ j. get_or (blocks ((64 * i + k) / 64)) j 0) r ∙ sym (get_or_run f (64 * i) 64 k 0 (omega arith)))

-- a list that has been made place by place from two others, as far as both go,
-- and is the first of them from there on
pub zip_all : (f : ℕ → ℕ → ℕ) (s xs ys : List ℕ) → length s ≡ length xs → ((k : ℕ) → k < length xs → k < length ys → get_or s k 0 ≡ f (get_or xs k 0) (get_or ys k 0)) → ((k : ℕ) → length ys ≤ k → get_or s k 0 ≡ get_or xs k 0) → s ≡ zip2 f xs ys ++ drop (length ys) xs
zip_all f [] [] ys l both rest = sym (drop-nil (length ys))
zip_all f [] (x ∷ xs) ys l both rest = absurd (omega arith)
zip_all f (z ∷ s) [] ys l both rest = absurd (omega arith)
zip_all f (z ∷ s) (x ∷ xs) [] l both rest = ext_get_or 0 (z ∷ s) (x ∷ xs) l (λ k h. rest k (omega arith))
zip_all f (z ∷ s) (x ∷ xs) (y ∷ ys) l both rest =
    let h : z ≡ f x y = both 0 (omega arith) (omega arith) in
    let t = zip_all f s xs ys (omega arith) (λ k a b. both (suc k) (omega arith) (omega arith)) (λ k a. rest (suc k) (omega arith)) in
    cc
