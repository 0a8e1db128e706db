-- A sealed line of a sheet is a sealed line, and says which text it was.
use Rattle.std.proofs.Common.{◌≡◌, ℕ, zero, suc, ◌<◌, ◌≤◌, true, List, [], ◌∷◌, length, refl, ap, ◌∙◌}
use lib.Bits.{xor_lt}
use Rattle.std.specs.List.{AllByRecursion}
use Rattle.std.proofs.lemmas.Bool.{le-leb}
use Rattle.hash.specs.declared.Strength.{Strength}
use Rattle.hash.specs.declared.Strength.TheVariants.{Lo, Mid, Hi}
use Rattle.hash.specs.Strength as strength
use Rattle.stream.specs.Stream.{StreamOf, run, masked}
use Rattle.stream.proofs.Masks.{length_run, length_masked}
use Rattle.hs1.specs.Hs1.{hs1}
use Rattle.hs1.specs.Seal.{siv, under, ciphertext}
use Rattle.hs1.proofs.Laws.{one_text}
use Rattle.sealed.specs.Hex.{Byte}
use Rattle.sealed.specs.Limits.{siv_length, text_length}
use Rattle.sealed.specs.Line.{Parts, LawfulHeader, Lawful, OneReading, header_of}
use Rattle.sheet.specs.Sheet.{nonce_of, sealed_parts, sheet_line}

run_bytes : (g : ℕ → ℕ) → ((p : ℕ) → g p < 256) → (p n : ℕ) → AllByRecursion Byte (run g p n)
run_bytes g b p zero = tt
run_bytes g b p (suc n) = (b p, run_bytes g b (suc p) n)

masked_bytes : (g : ℕ → ℕ) → ((p : ℕ) → g p < 256) → (p : ℕ) (xs : List ℕ) → AllByRecursion Byte xs → AllByRecursion Byte (masked g p xs)
masked_bytes g b p [] a = tt
masked_bytes g b p (x ∷ xs) a = (xor_lt 8 x (g p) a.0 (b p), masked_bytes g b (suc p) xs a.1)

pub siv_fits : (s : Strength) → siv_length (strength.siv_length s) ≡ true
siv_fits Lo = refl
siv_fits Mid = refl
siv_fits Hi = refl

-- a text that can be sealed into a line
abbrev pub Fits : List ℕ → Type 0
Fits text = (length text ≤ 16384) × AllByRecursion Byte text

module _ (f : StreamOf) (bytes : (seed nonce : List ℕ) (place : ℕ) → f.byte seed nonce place < 256) (s : Strength) where
  hs1_bytes : (key nonce input : List ℕ) (p : ℕ) → hs1 f s key nonce input p < 256
  unfolding hs1
  hs1_bytes key nonce input p = bytes _ nonce p

  pub length_siv : (key nonce header text : List ℕ) → length (siv f s key nonce header text) ≡ strength.siv_length s
  unfolding siv
  length_siv key nonce header text = length_run (hs1 f s key nonce _) 0 (strength.siv_length s)

  siv_bytes : (key nonce header text : List ℕ) → AllByRecursion Byte (siv f s key nonce header text)
  unfolding siv
  siv_bytes key nonce header text = run_bytes (hs1 f s key nonce _) (hs1_bytes key nonce _) 0 (strength.siv_length s)

  pub length_ciphertext : (key nonce header text : List ℕ) → length (ciphertext f s key nonce header text) ≡ length text
  unfolding ciphertext under
  length_ciphertext key nonce header text = length_masked (hs1 f s key nonce _) 64 text

  ciphertext_bytes : (key nonce header text : List ℕ) → AllByRecursion Byte text → AllByRecursion Byte (ciphertext f s key nonce header text)
  unfolding ciphertext under
  ciphertext_bytes key nonce header text a = masked_bytes (hs1 f s key nonce _) (hs1_bytes key nonce _) 64 text a

  pub lawful_parts : (slot kind serial : ℕ) (key text : List ℕ) → LawfulHeader slot kind serial → Fits text → Lawful (sealed_parts f s slot kind serial key text)
  lawful_parts slot kind serial key text head fits =
      let nonce = nonce_of serial in
      let header = header_of slot kind serial in
      record {
        head = head;
        siv_long = ap siv_length (length_siv key nonce header text) ∙ siv_fits s;
        siv_bytes = siv_bytes key nonce header text;
        text_long = ap text_length (length_ciphertext key nonce header text) ∙ le-leb (length text) 16384 fits.0;
        text_bytes = ciphertext_bytes key nonce header text fits.1;
      }

  module _ (one_reading : OneReading) where
    same_parts : (slot kind serial slot' kind' serial' : ℕ) (key key' text text' : List ℕ) → LawfulHeader slot kind serial → LawfulHeader slot' kind' serial' → Fits text → Fits text' → sheet_line f s slot kind serial key text ≡ sheet_line f s slot' kind' serial' key' text' → sealed_parts f s slot kind serial key text ≡ sealed_parts f s slot' kind' serial' key' text'
    unfolding sheet_line
    same_parts slot kind serial slot' kind' serial' key key' text text' h h' t t' e =
        one_reading _ _ (lawful_parts slot kind serial key text h t) (lawful_parts slot' kind' serial' key' text' h' t') e

    -- a line tells slot and serial
    pub apart : (kind slot slot' serial serial' : ℕ) (key key' text text' : List ℕ) → LawfulHeader slot kind serial → LawfulHeader slot' kind serial' → Fits text → Fits text' → sheet_line f s slot kind serial key text ≡ sheet_line f s slot' kind serial' key' text' → (slot ≡ slot') × (serial ≡ serial')
    apart kind slot slot' serial serial' key key' text text' h h' t t' e =
        let p = same_parts slot kind serial slot' kind serial' key key' text text' h h' t t' e in
        (ap (λ (q : Parts). q.slot) p, ap (λ (q : Parts). q.serial) p)

    -- and under one key one text
    pub same_text : (slot kind serial : ℕ) (key text text' : List ℕ) → LawfulHeader slot kind serial → Fits text → Fits text' → sheet_line f s slot kind serial key text ≡ sheet_line f s slot kind serial key text' → text ≡ text'
    same_text slot kind serial key text text' h t t' e =
        let p = same_parts slot kind serial slot kind serial key key text text' h h t t' e in
        one_text f s key (nonce_of serial) (header_of slot kind serial) text text' (ap (λ (q : Parts). q.siv) p) (ap (λ (q : Parts). q.text) p)
