-- Sums that wrap at 2^64 have the value of the plain sums, modulo 2^64.
use Rattle.std.proofs.Common.{◌≡◌, ℕ, ◌+◌, ◌*◌, ◌/◌, ◌%◌, ◌^◌, ◌<◌, List, [], length, get_or, ap, ◌∙◌, add-zero, add-one, arith}
use Rattle.std.specs.Simd.{first_chunks}
use Rattle.hash.specs.Nh.{keyed, group, groups}
use Rattle.hash.proofs.Chunks.{length_chunks, chunk_at}

pub sum_step : (g s p q : ℕ) → s ≡ g % 2 ^ 64 → ((s + p % 2 ^ 64) % 2 ^ 64 + q % 2 ^ 64) % 2 ^ 64 ≡ (g + (p + q)) % 2 ^ 64
sum_step g s p q e = omega arith

-- a and b are chunk j of k and of m
module _ (k m a b : List ℕ) (j : ℕ) (ka : a ≡ get_or (first_chunks 4 (length k / 4) k) j []) (mb : b ≡ get_or (first_chunks 4 (length m / 4) m) j []) (kj : j < length (first_chunks 4 (length k / 4) k)) (mj : j < length (first_chunks 4 (length m / 4) m)) where
  pub keyed_at : (i : ℕ) → i < 4 → get_or a i 0 + get_or b i 0 ≡ keyed k m (4 * j + i)
  unfolding keyed
  keyed_at i h =
      let x = chunk_at 4 (length k / 4) k a j i ka (omega (arith, kj, length_chunks 4 (length k / 4) k)) h in
      let y = chunk_at 4 (length m / 4) m b j i mb (omega (arith, mj, length_chunks 4 (length m / 4) m)) h in
      omega arith

  pub groups_step : (s : ℕ) → s ≡ groups k m j % 2 ^ 64 → ((s + ((get_or a 0 0 + get_or b 0 0) * (get_or a 2 0 + get_or b 2 0)) % 2 ^ 64) % 2 ^ 64 + ((get_or a 1 0 + get_or b 1 0) * (get_or a 3 0 + get_or b 3 0)) % 2 ^ 64) % 2 ^ 64 ≡ groups k m (j + 1) % 2 ^ 64
  unfolding group
  groups_step s e =
      let p : get_or a 0 0 + get_or b 0 0 ≡ keyed k m (4 * j) = keyed_at 0 (omega arith) ∙ ap (keyed k m) (add-zero (4 * j)) in
      let q = keyed_at 1 (omega arith) in
      let r = keyed_at 2 (omega arith) in
      let t = keyed_at 3 (omega arith) in
      rw add-one (
      sum_step (groups k m j) s _ _ e
      ∙ ap (λ x. (groups k m j + (x * (get_or a 2 0 + get_or b 2 0) + (get_or a 1 0 + get_or b 1 0) * (get_or a 3 0 + get_or b 3 0))) % 2 ^ 64) p
      ∙ ap (λ x. (groups k m j + (keyed k m (4 * j) * x + (get_or a 1 0 + get_or b 1 0) * (get_or a 3 0 + get_or b 3 0))) % 2 ^ 64) r
      ∙ ap (λ x. (groups k m j + (keyed k m (4 * j) * keyed k m (4 * j + 2) + x * (get_or a 3 0 + get_or b 3 0))) % 2 ^ 64) q
      ∙ ap (λ x. (groups k m j + (keyed k m (4 * j) * keyed k m (4 * j + 2) + keyed k m (4 * j + 1) * x)) % 2 ^ 64) t)

pub affine_sum : (a b c : ℕ) → ((a + b % 2 ^ 64) % 2 ^ 64 + c % 2 ^ 64) % 2 ^ 64 ≡ (a + b + c) % 2 ^ 64
affine_sum a b c = omega arith
