-- The results of the hashes, joined.
use Rattle.std.proofs.Common.{◌≡◌, ℕ, zero, suc, ◌+◌, ◌-◌, ◌*◌, ◌%◌, ◌^◌, ◌<◌, List, [], ◌∷◌, ◌++◌, length, get_or, take, drop, replicate, sym, refl, ap, ◌∙◌, append_assoc, mul-zero, mul-suc, add-one, arith}
use borrow.Rule.Slice.PartMut.{put_mid}
use Rattle.std.proofs.lemmas.List.{take_at, drop_at, drop-replicate, length-append}
use Rattle.hash.specs.declared.Strength.{Strength}
use Rattle.hash.specs.declared.Strength.TheVariants.{Lo, Mid, Hi}
use Rattle.hash.specs.Strength.{hashes}
use Rattle.hash.specs.Bytes.{pad}
use Rattle.hash.specs.Hash.{affine, result_of, result_width, results, below60}

pub length_result : (s : Strength) (k : List ℕ) (h : ℕ) → length (result_of s k h) ≡ result_width s
unfolding affine
length_result Lo k h = refl
length_result Mid k h = refl
length_result Hi k h = refl

pub length_results : (s : Strength) (k : List ℕ) (h : ℕ → ℕ) (n : ℕ) → length (results s k h n) ≡ result_width s * n
length_results s k h zero = sym (mul-zero (result_width s))
length_results s k h (suc n) =
    length-append (results s k h n) (result_of s (take 3 (drop (3 * n) k)) (h n))
    ∙ ap (λ x. x + length (result_of s (take 3 (drop (3 * n) k)) (h n))) (length_results s k h n)
    ∙ ap (λ x. result_width s * n + x) (length_result s (take 3 (drop (3 * n) k)) (h n))
    ∙ sym (mul-suc (result_width s) n)

pub results_same : (s : Strength) (k : List ℕ) (g h : ℕ → ℕ) (n : ℕ) → ((i : ℕ) → i < n → g i ≡ h i) → results s k g n ≡ results s k h n
results_same s k g h zero e = refl
results_same s k g h (suc n) e =
    ap (λ x. x ++ result_of s (take 3 (drop (3 * n) k)) (g n)) (results_same s k g h n (λ i l. e i (omega arith)))
    ∙ ap (λ x. results s k h n ++ result_of s (take 3 (drop (3 * n) k)) x) (e n (omega arith))

pub results_parts : (s : Strength) (k l : List ℕ) (h : ℕ → ℕ) (n : ℕ) → ((i : ℕ) → i < n → take 3 (drop (3 * i) k) ≡ take 3 (drop (3 * i) l)) → results s k h n ≡ results s l h n
results_parts s k l h zero e = refl
results_parts s k l h (suc n) e =
    ap (λ x. x ++ result_of s (take 3 (drop (3 * n) k)) (h n)) (results_parts s k l h n (λ i lt. e i (omega arith)))
    ∙ ap (λ x. results s l h n ++ result_of s x (h n)) (e n (omega arith))

-- bytes written over the first of the zeros
pub write_more : (a w n : ℕ) (front ys : List ℕ) → length front ≡ a → put_mid a w (front ++ replicate n 0) ys ≡ (front ++ ys) ++ replicate (n - w) 0
write_more a w n front ys e =
    ap (λ x. x ++ (ys ++ drop w (drop a (front ++ replicate n 0)))) (take_at front (replicate n 0) a e)
    ∙ ap (λ x. front ++ (ys ++ drop w x)) (drop_at front (replicate n 0) a e)
    ∙ ap (λ x. front ++ (ys ++ x)) (drop-replicate w n 0)
    ∙ sym (append_assoc front ys (replicate (n - w) 0))

-- one more result_of written
pub result_more : (s : Strength) (k : List ℕ) (h : ℕ → ℕ) (i v : ℕ) (out after part : List ℕ) → out ≡ results s k h i ++ replicate (32 - result_width s * i) 0 → part ≡ take 3 (drop (3 * i) k) → v ≡ h i → after ≡ put_mid (result_width s * i) (result_width s) out (result_of s part v) → after ≡ results s k h (i + 1) ++ replicate (32 - result_width s * (i + 1)) 0
result_more s k h i v out after part e p q f =
    let w = result_width s in
    let r = results s k h i in
    let y = result_of s (take 3 (drop (3 * i) k)) (h i) in
    let c : 32 - w * i - w ≡ 32 - w * suc i = omega (arith, mul-suc w i) in
    rw add-one (
    f
    ∙ ap (λ x. put_mid (w * i) w out (result_of s part x)) q
    ∙ ap (λ x. put_mid (w * i) w x (result_of s part (h i))) e
    ∙ ap (λ x. put_mid (w * i) w (r ++ replicate (32 - w * i) 0) (result_of s x (h i))) p
    ∙ write_more (w * i) w (32 - w * i) r y (length_results s k h i)
    ∙ ap (λ x. (r ++ y) ++ replicate x 0) c)

-- all results written
pub results_padded : (s : Strength) (k : List ℕ) (h : ℕ → ℕ) → results s k h (hashes s) ++ replicate (32 - result_width s * hashes s) 0 ≡ pad 32 (results s k h (hashes s))
results_padded s k h =
    let l = length_results s k h (hashes s) in
    ap (λ x. results s k h (hashes s) ++ replicate x 0) (count s ∙ ap (λ x. (32 - x % 32) % 32) (sym l))
  where
    count : (s : Strength) → 32 - result_width s * hashes s ≡ (32 - (result_width s * hashes s) % 32) % 32
    count Lo = refl
    count Mid = refl
    count Hi = refl

pub get_or_below60 : (ks : List ℕ) (i : ℕ) → get_or (below60 ks) i 0 ≡ get_or ks i 0 % 2 ^ 60
get_or_below60 [] i = refl
get_or_below60 (k ∷ ks) zero = refl
get_or_below60 (k ∷ ks) (suc i) = get_or_below60 ks i

-- zeros behind a part, written over the front of zeros
pub fill_front : (n fill : ℕ) (part ys : List ℕ) → fill ≡ length part → ys ≡ part → ys ++ drop fill (replicate n 0) ≡ part ++ replicate (n - length part) 0
fill_front n fill part ys l e =
    ap (λ x. x ++ drop fill (replicate n 0)) e ∙ ap (λ x. part ++ drop x (replicate n 0)) l ∙ ap (λ x. part ++ x) (drop-replicate (length part) n 0)
