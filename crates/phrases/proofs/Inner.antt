-- What stands between the front and the end of a line that was given.
use Rattle.std.proofs.Common.{◌≡◌, ℕ, ◌+◌, ◌-◌, ◌≤◌, true, false, ltb, List, [], ◌∷◌, ◌++◌, length, get_or, take, drop, Some, None, codes, Option, sym, refl, ap, ◌∙◌, arith, Bor, MatchOption}
use Rattle.std.specs.Option.{option_map}
use Rattle.std.specs.List.{AllByRecursion}
use Rattle.std.proofs.lemmas.List.{append_cancel_left, append_cancel_right, take_at, take_rest}
use Rattle.std.proofs.lemmas.Bool.{true≢false, and_parts, ltb-true}
use Rattle.shape.specs.Decimal.{figures}
use Rattle.shape.proofs.Figures.{figures_one}
use Rattle.sealed.specs.Hex.{Byte, hex_of}
use Rattle.sealed.specs.Whole.{NumberRead, HexRead}
use Rattle.sealed.proofs.Hexes.{same_hex}
use Rattle.book.specs.Book.{good_key}
use Rattle.phrases.specs.Given.{Between, KeyLine, LastLine}

-- the front was there, and perhaps the end
pub between_from : (l front end rest : List ℕ) (r : Option (Bor (List ℕ))) → l ≡ front ++ rest → MatchOption r ((f : List ℕ) → rest ≡ f ++ end → ⊥) (λ x. rest ≡ x.now ++ end) → Between l front end (option_map (λ x. x.now) r)
between_from l front end rest None e h = λ inner f. h inner (append_cancel_left front rest (inner ++ end) (sym e ∙ f))
between_from l front end rest (Some x) e h = e ∙ ap (λ y. front ++ y) h

-- between one front and one end stands one text
same_inner : (l front end x y : List ℕ) → l ≡ front ++ (x ++ end) → l ≡ front ++ (y ++ end) → x ≡ y
same_inner l front end x y e f = append_cancel_right x y end (append_cancel_left front (x ++ end) (y ++ end) (sym e ∙ f))

pub last_read : (l digits : List ℕ) (r : Option ℕ) → l ≡ codes "(last " ++ (digits ++ codes ")\n") → NumberRead digits r → MatchOption r ((serial : ℕ) → LastLine l serial → ⊥) (λ n. LastLine l n)
last_read l digits None e h = λ serial k. h serial k.fits (same_inner l (codes "(last ") (codes ")\n") digits (figures serial) e k.line)
last_read l digits (Some n) e h = record { fits = h.0; line = e ∙ ap (λ d. codes "(last " ++ (d ++ codes ")\n")) h.1 }

-- the slot's digit, a space, the digits of the key
abbrev inner_of : (slot : ℕ) (key : List ℕ) → List ℕ
inner_of slot key = (48 + slot) ∷ 32 ∷ hex_of key

key_line_is : (slot : ℕ) (key : List ℕ) → slot ≤ 7 → codes "(key " ++ (figures slot ++ (codes " " ++ (hex_of key ++ codes ")\n"))) ≡ codes "(key " ++ (inner_of slot key ++ codes ")\n")
key_line_is slot key h = ap (λ d. codes "(key " ++ (d ++ (codes " " ++ (hex_of key ++ codes ")\n")))) (figures_one slot (omega arith))

pub no_inner : (l : List ℕ) → Between l (codes "(key ") (codes ")\n") None → (slot : ℕ) (key : List ℕ) → KeyLine l slot key → ⊥
no_inner l none slot key k = none (inner_of slot key) (k.line ∙ key_line_is slot key k.slot_last)

-- by index
split_two : (xs : List ℕ) → 2 ≤ length xs → xs ≡ get_or xs 0 0 ∷ get_or xs 1 0 ∷ drop 2 xs
split_two [] h = absurd (omega arith)
split_two (x ∷ []) h = absurd (omega arith)
split_two (x ∷ y ∷ xs) h = refl

module _ (l inner : List ℕ) (e : l ≡ codes "(key " ++ (inner ++ codes ")\n")) where
  -- what a key line has there
  pub inner_facts : (slot : ℕ) (key : List ℕ) → KeyLine l slot key → (2 ≤ length inner) × (get_or inner 0 0 ≡ 48 + slot) × (get_or inner 1 0 ≡ 32) × (drop 2 inner ≡ hex_of key) × (slot ≤ 7)
  inner_facts slot key k =
      let is : inner ≡ inner_of slot key = same_inner l (codes "(key ") (codes ")\n") inner (inner_of slot key) e (k.line ∙ key_line_is slot key k.slot_last) in
      (omega (arith, ap length is), ap (λ x. get_or x 0 0) is, ap (λ x. get_or x 1 0) is, ap (drop 2) is, k.slot_last)

  -- a key line from what was read
  pub key_line : (slot : ℕ) (key : List ℕ) → 2 ≤ length inner → get_or inner 0 0 ≡ 48 + slot → get_or inner 1 0 ≡ 32 → drop 2 inner ≡ hex_of key → slot ≤ 7 → AllByRecursion Byte key → good_key key ≡ true → KeyLine l slot key
  key_line slot key two first space digits h bytes good =
      let is : inner ≡ inner_of slot key =
      split_two inner two
      ∙ ap (λ x. x ∷ get_or inner 1 0 ∷ drop 2 inner) first
      ∙ ap (λ x. (48 + slot) ∷ x ∷ drop 2 inner) space
      ∙ ap (λ x. (48 + slot) ∷ 32 ∷ x) digits in
      record {
        slot_last = h;
        key_good = good;
        key_bytes = bytes;
        line = e ∙ ap (λ x. codes "(key " ++ (x ++ codes ")\n")) is ∙ sym (key_line_is slot key h);
      }

-- the digits of the key were read
module _ (inner before after : List ℕ) where
  abbrev digits : List ℕ
  digits = take (length inner - 2) (drop 2 inner)

  pub no_digits : HexRead digits before after None → 32 ≤ length before → (key : List ℕ) → drop 2 inner ≡ hex_of key → AllByRecursion Byte key → good_key key ≡ true → ⊥
  no_digits h room key e bytes good =
      let few = ltb-true (length key) 33 (and_parts (ltb 0 (length key)) (ltb (length key) 33) good).1 in
      h.0 key bytes (omega arith) (take_rest inner 2 ∙ e)

  pub key_bytes : (n : ℕ) → HexRead digits before after (Some n) → (bytes : List ℕ) × AllByRecursion Byte bytes × (drop 2 inner ≡ hex_of bytes) × (take n after ≡ bytes)
  key_bytes n h =
      (h.0, h.1, sym (take_rest inner 2) ∙ h.2, ap (take n) h.5 ∙ take_at h.0 (drop n before) n (sym h.3))

  -- and they make no key
  pub no_key : (n : ℕ) → HexRead digits before after (Some n) → good_key (take n after) ≡ false → (key : List ℕ) → drop 2 inner ≡ hex_of key → AllByRecursion Byte key → good_key key ≡ true → ⊥
  no_key n h bad key e bytes good =
      let b = key_bytes n h in
      let same : b.0 ≡ key = same_hex b.0 key b.1 bytes (sym b.2 ∙ e) in
      true≢false (sym good ∙ ap good_key (sym (b.3 ∙ same)) ∙ bad)
