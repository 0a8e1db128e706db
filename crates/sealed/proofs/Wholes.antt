-- Texts that are a number or bytes in hexadecimal as a whole.
use Rattle.std.proofs.Common.{◌≡◌, ℕ, ◌+◌, ◌*◌, ◌/◌, ◌%◌, ◌<◌, ◌≤◌, List, length, take, drop, Err, sym, ap, ◌∙◌, subst, ⊎_elim, arith}
use Rattle.std.specs.List.{AllByRecursion}
use Rattle.std.proofs.lemmas.List.{take_all, take-append-drop}
use Rattle.std.proofs.lemmas.Bool.{cases_lt}
use Rattle.shape.specs.Column.{Front}
use Rattle.shape.specs.Decimal.{figures}
use Rattle.shape.specs.Token.{Token, Munch}
use Rattle.sealed.specs.Frame.{Value}
use Rattle.sealed.specs.Hex.{HexDigit, hex_of, bytes_of}
use Rattle.sealed.specs.Limits.{last_serial}
use Rattle.sealed.proofs.Hexes.{length_hex, hex_bytes}

module _ (T : List ℕ → Type 0) (s : List ℕ) where
  -- a whole text begins with each of its front parts
  front_whole : T s → (n : ℕ) → Front T (take n s)
  front_whole t n = (drop n s, subst T (sym (take-append-drop n s)) t)

  -- a token that ends before the text says that the text is none
  pub ends_before : (n : ℕ) → Munch T s n → n < length s → T s → ⊥
  ends_before n m l t = m.stops l (front_whole t (n + 1))

  pub part_only : (n : ℕ) → Token T s (Err n) → T s → ⊥
  part_only n k t =
      ⊎_elim (λ l. ends_before n k.0 l t)
      (λ h. k.1 (subst T (sym (take_all n s h)) t))
      (cases_lt n (length s))

-- a number as a whole
pub whole_number : (s : List ℕ) (n : ℕ) → n ≤ last_serial → s ≡ figures n → Value 0 last_serial s
whole_number s n h e = (n, omega arith, h, e)

-- bytes as a whole: two digits for each
module _ (s : List ℕ) where
  pub hex_even : (bytes : List ℕ) → s ≡ hex_of bytes → length s ≡ 2 * length bytes
  hex_even bytes e = ap length e ∙ length_hex bytes

  pub whole_hex : length s % 2 ≡ 0 → AllByRecursion HexDigit s → (s ≡ hex_of (bytes_of s)) × (length (bytes_of s) ≡ length s / 2)
  whole_hex even digits =
      let w = hex_bytes (length s / 2) s (omega arith) digits in
      (sym w.0, w.1)
