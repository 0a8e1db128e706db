-- A literal and a token from a place on, in the words of the readers.
use Rattle.std.proofs.Common.{◌≡◌, ℕ, ◌+◌, ◌-◌, ◌*◌, ◌/◌, ◌%◌, ◌≤◌, List, length, take, drop, Ok, Err, sym, refl, ap, ◌∙◌, inr, arith}
use Rattle.std.proofs.lemmas.List.{drop-drop, length-drop, length-take-le}
use Rattle.shape.specs.Outcome.{Read, Is}
use Rattle.shape.specs.Token.{Runs, Token}
use Rattle.sealed.specs.Frame.{Found, Missed, HexOf, FindsDigits, ReadsDigits}
use Rattle.sealed.specs.Hex.{HexDigit}
use Rattle.sealed.proofs.Hexes.{hex_token, hex_part}
use Rattle.sealed.proofs.Pieces.{found_from}

module _ (p s : List ℕ) (at mid : ℕ) (up : at ≤ mid) (within : mid ≤ length s) (o : Read (Is p) (drop at s) (mid - at)) where
  long : mid - at ≡ length p
  long = sym o.long ∙ ap length o.is

  literal_is : Read (Is p) (drop at s) (length p)
  literal_is = rw (← long) o

  there : drop (length p) (drop at s) ≡ drop mid s
  there = ap (λ i. drop i (drop at s)) (sym long) ∙ drop-drop (mid - at) at s ∙ ap (λ i. drop i s) (omega arith)

  pub token_missed : (T : List ℕ → Type 0) (m : ℕ) → Token T (drop mid s) (Err m) → (at ≤ mid + m) × (mid + m ≤ length s) × Missed p T (drop at s) (mid + m - at)
  token_missed T m k =
      let e : mid + m - at ≡ length p + m = omega (arith, long) in
      let k₁ : Token T (drop (length p) (drop at s)) (Err m) = rw there k in
      (omega arith, omega (arith, k.0.fits, length-drop mid s), rw e (inr (m, literal_is, k₁, refl)))

  pub token_found : (T : List ℕ → Type 0) (m : ℕ) (t : List ℕ) → Token T (drop mid s) (Ok m) → take m (drop mid s) ≡ t →
      (at ≤ mid + m) × (mid + m ≤ length s) × Found p T (drop at s) (mid + m - at) t
  token_found T m t k e =
      let d : mid + m - at ≡ length p + m = omega (arith, long) in
      let k₁ : Token T (drop (length p) (drop at s)) (Ok m) = rw there k in
      (omega arith, omega (arith, k.0.fits, length-drop mid s), rw d (found_from p T (drop at s) m t literal_is k₁ (rw there e)))

  -- a run of hexadecimal digits after the literal
  module _ (most n : ℕ) (run : Runs HexDigit (2 * most) (drop mid s) n) where
    fits : mid + n ≤ length s
    fits = omega (arith, run.fits, length-drop mid s)

    pub digits_missed : (end : ℕ) → n % 2 ≡ 1 → ReadsDigits p most s at end (Err (mid + n))
    digits_missed end odd = (omega arith, fits, λ allowed bound. (token_missed (HexOf allowed) n (hex_part allowed most bound (drop mid s) n run (λ even ok. omega arith))).2)

    pub digits_found : (d : List ℕ) → n % 2 ≡ 0 → d ≡ take n (drop mid s) → FindsDigits p most s at (mid + n) d
    digits_found d even e =
        let long : length d ≡ n = ap length e ∙ length-take-le n (drop mid s) run.fits in
        let half : length d / 2 ≡ n / 2 = ap (λ k. k / 2) long in (
          omega arith,
          fits,
          omega (arith, long, run.few),
          λ allowed bound. (
            (λ ok. (token_found (HexOf allowed) n d (hex_token allowed most bound (drop mid s) n run even (ap allowed (sym half) ∙ ok)) (sym e)).2),
            (λ other. (token_missed (HexOf allowed) n (hex_part allowed most bound (drop mid s) n run (λ even ok. other (ap allowed half ∙ ok)))).2),
          ),
        )
