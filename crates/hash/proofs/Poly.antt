-- The polynomial step by digits of three bits.
use Rattle.std.proofs.Common.{◌≡◌, ℕ, ◌+◌, ◌-◌, ◌*◌, ◌/◌, ◌%◌, ◌^◌, ◌<◌, ◌≤◌, sym, ap, ◌∙◌, add-zero, mul_assoc, mul_comm, add-mul, pow-suc, mul-zero, mul-add, add-one, arith}
use native.Mathlib.Nat.{add-mul-mod_self_right, div-add-mod, div-div-eq-div-mul}
use Rattle.std.proofs.lemmas.Nat.{mul-le}
use Rattle.hash.specs.Hash.{prime}

-- the bits that a turn takes off the top come round
pub rolled : (w : ℕ) → (w % 2 ^ 58 * 8 + w / 2 ^ 58) + (w / 2 ^ 58) * prime ≡ w * 8
rolled w = omega arith

-- one digit of d, taken off
pub digit : (w d : ℕ) → w * d ≡ ((w % 2 ^ 58 * 8 + w / 2 ^ 58) * (d / 8) + (d % 8) * w) + ((w / 2 ^ 58) * (d / 8)) * prime
digit w d =
    let v = w % 2 ^ 58 * 8 + w / 2 ^ 58 in
    let c = w / 2 ^ 58 in
    let q = d / 8 in
    let split : w * d ≡ w * (8 * q) + w * (d % 8) = ap (λ x. w * x) (sym (div-add-mod d 8)) ∙ mul-add w (8 * q) (d % 8) in
    let eights : w * (8 * q) ≡ (v + c * prime) * q = sym (mul_assoc w 8 q) ∙ ap (λ x. x * q) (sym (rolled w)) in
    let parts : (v + c * prime) * q ≡ v * q + (c * prime) * q = add-mul v (c * prime) q in
    let round : (c * prime) * q ≡ (c * q) * prime = mul_assoc c prime q ∙ ap (λ x. c * x) (mul_comm prime q) ∙ sym (mul_assoc c q prime) in
    let turn : w * (d % 8) ≡ (d % 8) * w = mul_comm w (d % 8) in
    omega arith

-- the sum after a digit is the sum before it, modulo the prime
pub step : (low high w d : ℕ) → (low + (d % 8 * w) % 2 ^ 32 + 2 ^ 32 * (high + d % 8 * w / 2 ^ 32) + (w % 2 ^ 58 * 8 + w / 2 ^ 58) * (d / 8)) % prime ≡ (low + 2 ^ 32 * high + w * d) % prime
step low high w d =
    let e = digit w d in
    let x = low + (d % 8 * w) % 2 ^ 32 + 2 ^ 32 * (high + d % 8 * w / 2 ^ 32) + (w % 2 ^ 58 * 8 + w / 2 ^ 58) * (d / 8) in
    let y = (w / 2 ^ 58) * (d / 8) in
    let f : low + 2 ^ 32 * high + w * d ≡ x + y * prime = omega arith in
    sym (ap (λ z. z % prime) f ∙ add-mul-mod_self_right x y prime)

-- the two halves, folded at the end
pub folded : (low high : ℕ) → (low + high / 2 ^ 29 + high % 2 ^ 29 * 2 ^ 32) % prime ≡ (low + 2 ^ 32 * high) % prime
folded low high =
    let x = low + high / 2 ^ 29 + high % 2 ^ 29 * 2 ^ 32 in
    let f : low + 2 ^ 32 * high ≡ x + high / 2 ^ 29 * prime = omega arith in
    sym (ap (λ z. z % prime) f ∙ add-mul-mod_self_right x (high / 2 ^ 29) prime)

-- a digit times a power fits 64 bits
pub product_le : (w d : ℕ) → w < 2 ^ 61 → d % 8 * w ≤ 7 * (2 ^ 61 - 1)
product_le w d h = mul-le (d % 8) w 7 (2 ^ 61 - 1) (omega arith) (omega arith)

-- the digits that are left
pub digits_more : (d k i : ℕ) → d ≡ k / 8 ^ i → d / 8 ≡ k / 8 ^ (i + 1)
digits_more d k i e = ap (λ x. x / 8) e ∙ div-div-eq-div-mul k (8 ^ i) 8 ∙ ap (λ x. k / x) (sym (pow-suc 8 i) ∙ ap (λ n. 8 ^ n) (sym (add-one i)))

-- after twenty digits none is left
pub ended : (low high w d k a t : ℕ) → d ≡ (k % 2 ^ 60) / 8 ^ 20 → (low + 2 ^ 32 * high + w * d) % prime ≡ t → (low + 2 ^ 32 * high) % prime ≡ t
ended low high w d k a t e inv =
    let z : d ≡ 0 = omega arith in
    ap (λ x. x % prime) (sym (ap (λ x. low + 2 ^ 32 * high + x) (ap (λ x. w * x) z ∙ mul-zero w) ∙ add-zero (low + 2 ^ 32 * high))) ∙ inv
