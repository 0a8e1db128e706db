-- Sealing a text where all lengths are right.
use Rattle.std.proofs.Common.{◌≡◌, ℕ, ◌<◌, ◌≤◌, true, cond, List, ◌++◌, length, take, drop, replicate, Some, None, Ok, Err, Option, Result, sym, ap, ◌∙◌, subst, arith}
use Rattle.std.proofs.lemmas.Grind.{common_steps}
use Rattle.std.proofs.lemmas.List.{drop_all, append-nil, take_at}
use Rattle.std.proofs.lemmas.Bool.{le-ltb, le-leb}
use Rattle.refusal.specs.declared.Refusal.{Refusal}
use Rattle.refusal.specs.declared.Refusal.TheVariants.{ShortOutput}
use Rattle.hash.specs.declared.Strength.{Strength}
use Rattle.hash.specs.Strength as strength
use Rattle.stream.specs.Stream.{StreamOf}
use Rattle.hs1.specs.Checks.{input_checks, put}
use Rattle.hs1.specs.Calls as hs1
use Rattle.hs1.specs.Seal.{siv, ciphertext}
use Rattle.sealed.specs.Limits.{siv_length, text_length}
use Rattle.sealed.specs.Line.{LawfulHeader, header_of, sealed_line, parts_in}
use Rattle.sealed.specs.Writes.{Writes, WritesLine, header_refusal, length_refusal, room_refusal}
use Rattle.sealed.proofs.Lengths.{longest_header_is}
use Rattle.sheet.specs.Sheet.{nonce_of, sealed_parts, sheet_line}
use Rattle.sheet.proofs.Lines.{length_siv, length_ciphertext, siv_fits}

-- what sealing and opening check of key, nonce, header and text
pub inputs_pass : (key nonce header text : ℕ) → 0 < key → key ≤ 32 → nonce ≡ 12 → header ≤ 46 → text ≤ 16384 → input_checks key nonce header text ≡ None
inputs_pass key nonce header text k0 k n h t = grind (arith, common_steps)

pub header_pass : (slot kind serial : ℕ) → LawfulHeader slot kind serial → header_refusal slot kind serial ≡ None
header_pass slot kind serial h =
    let slot_last = h.slot_last in
    let kind_first = h.kind_first in
    let kind_last = h.kind_last in
    let serial_first = h.serial_first in
    grind (arith, common_steps)

lengths_pass : (siv text : ℕ) → siv_length siv ≡ true → text_length text ≡ true → length_refusal None siv text ≡ None
lengths_pass siv text a b = grind (arith, common_steps)

-- a writer that checks nothing but the room, and has it
roomy : (w before after : List ℕ) (q : Option Refusal) (r : Result ℕ Refusal) → q ≡ None → length w ≤ length before → Writes (room_refusal q (length w) (length before)) w before after r → (r ≡ Ok (length w)) × (after ≡ w ++ drop (length w) before)
roomy w before after q r e l h =
    let P : Option Refusal → Type 0 = λ o. Writes o w before after r in
    let g = subst P (ap (λ o. room_refusal o (length w) (length before)) e ∙ ap (λ b. cond b (Some ShortOutput) None) (le-ltb (length before) (length w) l)) h in
    (g.0, g.2)

-- the front of a buffer, where a part was written
pub front : (w rest after : List ℕ) (n : ℕ) → n ≡ length w → after ≡ w ++ rest → take n after ≡ w
front w rest after n e a = ap (take n) a ∙ take_at w rest n (sym e)

-- the buffer for a header
abbrev blank : List ℕ
blank = replicate 46 0

-- The steps of sealing a text: the header was written into zeros.
module _ (slot kind serial : ℕ) (head : LawfulHeader slot kind serial) (after : List ℕ) (r : Result ℕ Refusal) (w : Writes (room_refusal (header_refusal slot kind serial) (length (header_of slot kind serial)) (length blank)) (header_of slot kind serial) blank after r) where
  there : (r ≡ Ok (length (header_of slot kind serial))) × (after ≡ header_of slot kind serial ++ drop (length (header_of slot kind serial)) blank)
  there = roomy (header_of slot kind serial) blank after (header_refusal slot kind serial) r (header_pass slot kind serial head) (longest_header_is slot kind serial head) w

  pub never_refused : (why : Refusal) → r ≡ Err why → ⊥
  never_refused why e = let h = there.0 in let z : ◌≡◌ {A = ℕ} 0 1 = cc in omega arith

  pub header_there : (n : ℕ) → r ≡ Ok n → take n after ≡ header_of slot kind serial
  header_there n e =
      let h = there.0 in
      let m : n ≡ length (header_of slot kind serial) = cc in
      front (header_of slot kind serial) _ after n m there.1

module _ (f : StreamOf) (bytes : (seed nonce : List ℕ) (place : ℕ) → f.byte seed nonce place < 256) (s : Strength) (slot kind serial : ℕ) (head : LawfulHeader slot kind serial) (key text : List ℕ) (k0 : 0 < length key) (k : length key ≤ 32) (few : length text ≤ 16384) where
  abbrev header : List ℕ
  header = header_of slot kind serial

  -- the text was masked, and the line written
  module _ (nonce part was siv_after text_after : List ℕ) (a : Result (Unit {0}) Refusal) (nonce_is : nonce ≡ nonce_of serial) (part_is : part ≡ header) (twelve : length nonce ≡ 12) (sealed : hs1.Seals (input_checks (length key) (length nonce) (length part) (length text)) f s key nonce part text was siv_after text text_after a) where
    checks_none : input_checks (length key) (length nonce) (length part) (length text) ≡ None
    checks_none = inputs_pass (length key) (length nonce) (length part) (length text) k0 k twelve (omega (arith, ap length part_is, longest_header_is slot kind serial head)) few

    siv_is : siv f s key nonce part text ≡ siv f s key (nonce_of serial) header text
    siv_is = ap (λ x. siv f s key x part text) nonce_is ∙ ap (λ x. siv f s key (nonce_of serial) x text) part_is

    cipher_is : ciphertext f s key nonce part text ≡ ciphertext f s key (nonce_of serial) header text
    cipher_is = ap (λ x. ciphertext f s key x part text) nonce_is ∙ ap (λ x. ciphertext f s key (nonce_of serial) x text) part_is

    siv_there : (n : ℕ) → n ≡ strength.siv_length s → take n siv_after ≡ siv f s key (nonce_of serial) header text
    siv_there n e =
        front (siv f s key nonce part text) _ siv_after n (e ∙ sym (length_siv f bytes s key nonce part text))
        (sealed.siv_is ∙ ap (λ c. put c (siv f s key nonce part text) was) checks_none)
        ∙ siv_is

    text_there : text_after ≡ ciphertext f s key (nonce_of serial) header text
    text_there =
        let c = ciphertext f s key nonce part text in
        let long : length c ≡ length text = length_ciphertext f bytes s key nonce part text in
        sealed.out_is ∙ ap (λ o. put o c text) checks_none
        ∙ ap (λ x. c ++ x) (drop_all (length c) text (omega arith)) ∙ append-nil c
        ∙ cipher_is

    pub line_written : (n : ℕ) (before after : List ℕ) (r : Result ℕ Refusal) → n ≡ strength.siv_length s → WritesLine (parts_in slot kind serial (take n siv_after) text_after) before after r → Writes (room_refusal None (length (sheet_line f s slot kind serial key text)) (length before)) (sheet_line f s slot kind serial key text) before after r
    unfolding sheet_line
    line_written n before after r e w =
        let p = sealed_parts f s slot kind serial key text in
        let W : List ℕ → List ℕ → Type 0 = λ i t. WritesLine (parts_in slot kind serial i t) before after r in
        let at_siv : W p.siv text_after = subst (λ i. W i text_after) (siv_there n e) w in
        let at_text : W p.siv p.text = subst (W p.siv) text_there at_siv in
        let none : length_refusal (header_refusal slot kind serial) (length p.siv) (length p.text) ≡ None =
        ap (λ q. length_refusal q (length p.siv) (length p.text)) (header_pass slot kind serial head)
        ∙ lengths_pass (length p.siv) (length p.text) (ap siv_length (length_siv f bytes s key (nonce_of serial) header text) ∙ siv_fits s)
        (ap text_length (length_ciphertext f bytes s key (nonce_of serial) header text) ∙ le-leb (length text) 16384 few) in
        let Q : Option Refusal → Type 0 = λ o. Writes (room_refusal o (length (sealed_line p)) (length before)) (sealed_line p) before after r in
        subst Q none at_text
