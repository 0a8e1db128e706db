-- From the pieces that were read to the sheet.
use Rattle.std.proofs.Common.{◌≡◌, ℕ, ◌+◌, ◌-◌, ◌*◌, ◌/◌, ◌≤◌, Bool, true, List, [], ◌∷◌, ◌++◌, length, take, drop, Ok, Err, codes, sym, ap, ◌∙◌, ap₂, arith}
use Rattle.std.proofs.lemmas.List.{append_cancel_right, take-append-drop, drop_at, drop-drop}
use Rattle.std.proofs.lemmas.Bool.Decides.{nat_tests}
use Rattle.shape.specs.Decimal.{figures}
use Rattle.shape.specs.Outcome.{Read, Fault, CarriesTo}
use Rattle.shape.proofs.Carry.{carries_none}
use Rattle.sealed.specs.Frame.{HexOf, FromEnd, FromText, FromSerial, FromKind, Whole, Found, Labelled, FindsDigits, ReadsDigits, ReadsLiteral, ReadsNumber}
use Rattle.sealed.specs.Hex.{hex_of, bytes_of}
use Rattle.sealed.specs.Limits.{last_slot, first_kind, last_kind, first_serial, last_serial, siv_length, text_length, longest_siv, longest_text}
use Rattle.sealed.specs.Line.{Parts, Lawful, parts_in, header_of, sealed_line}
use Rattle.sealed.proofs.Hexes.{bytes_hex, bytes_small}
use Rattle.sealed.proofs.Lengths.{siv_most, text_most}
use Rattle.sealed.proofs.Pieces.{found_goes, missed_fault, found_spells, slots, kinds, serials, sivs, texts, from_kind, from_serial, from_siv, from_text, from_end, spelling, spelling_more, spelt, header_more}

-- digits that were read are those of the bytes that they write
coded : (a : ℕ → Bool) (t : List ℕ) → HexOf a t → (t ≡ hex_of (bytes_of t)) × (a (length (bytes_of t)) ≡ true)
coded a t x =
    let e : bytes_of t ≡ x.0 = ap bytes_of x.3 ∙ bytes_hex x.0 x.1 in
    (x.3 ∙ ap hex_of (sym e), ap (λ z. a (length z)) e ∙ x.2)

-- a literal and a token at a place
found_at : (p : List ℕ) (T : List ℕ → Type 0) (s : List ℕ) (at end : ℕ) (t : List ℕ) → at ≤ end → Found p T (drop at s) (end - at) t → drop at s ≡ p ++ (t ++ drop end s)
found_at p T s at end t le f =
    let e : at + (end - at) ≡ end = omega arith in
    found_spells p T (drop at s) (end - at) t f ∙ ap (λ z. p ++ (t ++ z)) (drop-drop (end - at) at s ∙ ap (λ i. drop i s) e)

-- the front of a list by what is left
front_is : (s x : List ℕ) (n : ℕ) → s ≡ x ++ drop n s → take n s ≡ x
front_is s x n e = append_cancel_right (take n s) x (drop n s) (take-append-drop n s ∙ e)

-- no digits of more bytes are read than a text can have
text_fits : (n : ℕ) → n ≤ 2 * longest_text → text_length (n / 2) ≡ true
text_fits n h = grind (arith, nat_tests)

-- the numbers of the header
module _ (s : List ℕ) where
  whole_goes : CarriesTo Whole Whole s 0
  whole_goes = carries_none Whole s

  pub slot_fault : (end n : ℕ) → ReadsNumber (codes "(sealed (slot ") 0 last_slot s 0 end (Err n) → Fault Whole s n
  slot_fault end n x = missed_fault _ _ _ Whole slots from_kind s 0 whole_goes n x.0 x.2

  module _ (slot slot_end : ℕ) (a : ReadsNumber (codes "(sealed (slot ") 0 last_slot s 0 slot_end (Ok slot)) where
    slot_goes : CarriesTo Whole FromKind s slot_end
    slot_goes = found_goes _ _ _ Whole slots from_kind s 0 whole_goes slot_end _ a.0 a.4

    pub kind_fault : (end n : ℕ) → ReadsNumber (codes ") (kind ") first_kind last_kind s slot_end end (Err n) → Fault Whole s n
    kind_fault end n x = missed_fault _ _ _ Whole kinds from_serial s slot_end slot_goes n x.0 x.2

    module _ (kind kind_end : ℕ) (b : ReadsNumber (codes ") (kind ") first_kind last_kind s slot_end kind_end (Ok kind)) where
      kind_goes : CarriesTo Whole FromSerial s kind_end
      kind_goes = found_goes _ _ _ Whole kinds from_serial s slot_end slot_goes kind_end _ b.0 b.4

      pub serial_fault : (end n : ℕ) → ReadsNumber (codes ") (serial ") first_serial last_serial s kind_end end (Err n) → Fault Whole s n
      serial_fault end n x = missed_fault _ _ _ Whole serials from_siv s kind_end kind_goes n x.0 x.2

      pub labelled : (serial end : ℕ) → ReadsNumber (codes ") (serial ") first_serial last_serial s kind_end end (Ok serial) → Labelled s end slot kind serial
      labelled serial end d =
          record {
            fits = d.1;
            lawful = record { slot_last = a.3; kind_first = b.2; kind_last = b.3; serial_first = d.2; serial_last = d.3 };
            cut = found_at _ _ s 0 slot_end _ a.0 a.4 ∙ ap (λ z. codes "(sealed (slot " ++ (figures slot ++ z)) (
                found_at _ _ s slot_end kind_end _ b.0 b.4 ∙ ap (λ z. codes ") (kind " ++ (figures kind ++ z)) (found_at _ _ s kind_end end _ d.0 d.4));
            goes = found_goes _ _ _ Whole serials from_siv s kind_end kind_goes end _ d.0 d.4;
          }

-- the rest of the line
module _ (s : List ℕ) (end slot kind serial : ℕ) (h : Labelled s end slot kind serial) where
  pub siv_fault : (e n : ℕ) → ReadsDigits (codes ") (siv ") longest_siv s end e (Err n) → Fault Whole s n
  siv_fault e n x = missed_fault _ _ _ Whole sivs from_text s end h.goes n x.0 (x.2 siv_length siv_most)

  module _ (siv : List ℕ) (siv_end : ℕ) (f : FindsDigits (codes ") (siv ") longest_siv s end siv_end siv) where
    pub siv_other : (siv_length (length siv / 2) ≡ true → ⊥) → Fault Whole s siv_end
    siv_other o = missed_fault _ _ _ Whole sivs from_text s end h.goes siv_end f.0 ((f.3 siv_length siv_most).1 o)

    module _ (ok : siv_length (length siv / 2) ≡ true) where
      siv_found : Found (codes ") (siv ") (HexOf siv_length) (drop end s) (siv_end - end) siv
      siv_found = (f.3 siv_length siv_most).0 ok

      siv_goes : CarriesTo Whole FromText s siv_end
      siv_goes = found_goes _ _ _ Whole sivs from_text s end h.goes siv_end _ f.0 siv_found

      pub text_fault : (e n : ℕ) → ReadsDigits (codes ") (text ") longest_text s siv_end e (Err n) → Fault Whole s n
      text_fault e n x = missed_fault _ _ _ Whole texts from_end s siv_end siv_goes n x.0 (x.2 text_length text_most)

      module _ (text : List ℕ) (text_end : ℕ) (g : FindsDigits (codes ") (text ") longest_text s siv_end text_end text) where
        text_found : Found (codes ") (text ") (HexOf text_length) (drop siv_end s) (text_end - siv_end) text
        text_found = (g.3 text_length text_most).0 (text_fits (length text) g.2)

        text_goes : CarriesTo Whole FromEnd s text_end
        text_goes = found_goes _ _ _ Whole texts from_end s siv_end siv_goes text_end _ g.0 text_found

        pub end_fault : (e n : ℕ) → ReadsLiteral (codes "))") s text_end e (Err n) → Fault Whole s n
        end_fault e n o = let m : text_end + (n - text_end) ≡ n = omega (arith, o.0) in rw (← m) (text_goes (Err (n - text_end)) o.2)

        module _ (n : ℕ) (o : ReadsLiteral (codes "))") s text_end n (Ok tt)) where
          more : text_end + (n - text_end) ≡ n
          more = omega (arith, o.0)

          pub whole_read : Read Whole s n
          whole_read = rw (← more) (text_goes (Ok (n - text_end)) o.1)

          last : drop text_end s ≡ codes "))" ++ drop n s
          last =
              let q = o.1 in
              let left : drop (n - text_end) (drop text_end s) ≡ q.back = rw q.cut (drop_at q.front q.back (n - text_end) q.long) in
              q.cut ∙ ap₂ ◌++◌ q.is (sym left ∙ drop-drop (n - text_end) text_end s ∙ ap (λ i. drop i s) more)

          -- what the pieces say
          abbrev made : Parts
          made = parts_in slot kind serial (bytes_of siv) (bytes_of text)

          the_siv : (siv ≡ hex_of (bytes_of siv)) × (siv_length (length (bytes_of siv)) ≡ true)
          the_siv = coded siv_length siv siv_found.is

          the_text : (text ≡ hex_of (bytes_of text)) × (text_length (length (bytes_of text)) ≡ true)
          the_text = coded text_length text text_found.is

          pub made_lawful : Lawful made
          made_lawful = record { head = h.lawful; siv_long = the_siv.1; siv_bytes = bytes_small siv; text_long = the_text.1; text_bytes = bytes_small text }

          abbrev after_serial : List ℕ → List ℕ
          after_serial z = codes "(sealed (slot " ++ (figures slot ++ (codes ") (kind " ++ (figures kind ++ (codes ") (serial " ++ (figures serial ++ z)))))

          from_digits : drop end s ≡ codes ") (siv " ++ (siv ++ (codes ") (text " ++ (text ++ (codes "))" ++ drop n s))))
          from_digits = found_at _ _ s end siv_end _ f.0 siv_found ∙ ap (λ z. codes ") (siv " ++ (siv ++ z)) (found_at _ _ s siv_end text_end _ g.0 text_found ∙ ap (λ z. codes ") (text " ++ (text ++ z)) last)

          spelt_out : s ≡ spelling made [] ++ drop n s
          spelt_out =
              let r = drop n s in
              h.cut ∙ ap after_serial (from_digits ∙ ap₂ (λ y z. codes ") (siv " ++ (y ++ (codes ") (text " ++ (z ++ (codes "))" ++ r))))) the_siv.0 the_text.0) ∙ sym (spelling_more made r)

          pub made_line : take n s ++ 10 ∷ [] ≡ sealed_line made
          made_line = ap (λ z. z ++ 10 ∷ []) (front_is s (spelling made []) n spelt_out) ∙ spelling_more made (10 ∷ []) ∙ sym (spelt made)

          pub made_header : take (end + 2) s ≡ header_of slot kind serial
          made_header =
              let k = end + 2 in
              let left : drop k s ≡ codes "(siv " ++ (siv ++ (codes ") (text " ++ (text ++ (codes "))" ++ drop n s)))) = sym (drop-drop 2 end s) ∙ ap (drop 2) from_digits in
              front_is s _ k (h.cut ∙ ap after_serial (from_digits ∙ ap (λ z. codes ") " ++ z) (sym left)) ∙ sym (header_more slot kind serial (drop k s)))
