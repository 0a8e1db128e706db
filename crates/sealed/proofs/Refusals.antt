-- The checks of the writers, and what they answer.
use Rattle.std.proofs.Common.{◌≡◌, ℕ, ◌+◌, ◌*◌, ◌<◌, ◌≤◌, true, List, ◌++◌, length, drop, Some, None, Ok, Err, Option, refl, ap, ◌∙◌, arith}
use Rattle.std.proofs.lemmas.Bool.{lt-ltb, le-ltb}
use Rattle.std.proofs.lemmas.Bool.Decides.{nat_tests}
use Rattle.refusal.specs.declared.Refusal.{Refusal}
use Rattle.refusal.specs.declared.Refusal.TheVariants.{ShortOutput}
use Rattle.shape.specs.Decimal.{figures}
use Rattle.shape.proofs.Figures.{length_one}
use Rattle.sealed.specs.Limits.{last_serial, siv_length, text_length}
use Rattle.sealed.specs.Line.{Parts, LawfulHeader, header_of, sealed_line}
use Rattle.sealed.specs.Writes.{over, answer, header_refusal, length_refusal, room_refusal, Writes}
use Rattle.sealed.proofs.Lengths.{length_header, length_line}

-- what passes the checks is lawful
pub header_lawful : (slot kind serial : ℕ) → None ≡ header_refusal slot kind serial → serial ≤ last_serial → LawfulHeader slot kind serial
header_lawful slot kind serial h l = record { slot_last = grind (arith, nat_tests); kind_first = grind (arith, nat_tests); kind_last = grind (arith, nat_tests); serial_first = grind (arith, nat_tests); serial_last = l }

pub short_header : (slot kind serial : ℕ) → None ≡ header_refusal slot kind serial → serial ≤ last_serial → length (header_of slot kind serial) ≡ 36 + length (figures serial)
short_header slot kind serial h l =
    let f = header_lawful slot kind serial h l in
    omega (arith, length_header slot kind serial, length_one slot (omega (arith, f.slot_last)), length_one kind (omega (arith, f.kind_last)))

-- what the checks let pass has no refusal
pub unrefused : (q : Option Refusal) → Ok tt ≡ answer q → None ≡ q
unrefused (Some e) h = absurd cc
unrefused None h = refl

-- the numbers passed too where the lengths did
pub passed : (q : Option Refusal) (siv text : ℕ) → None ≡ length_refusal q siv text → None ≡ q
passed (Some e) siv text h = h
passed None siv text h = refl

pub lengths_lawful : (q : Option Refusal) (siv text : ℕ) → None ≡ length_refusal q siv text → (siv_length siv ≡ true) × (text_length text ≡ true)
lengths_lawful (Some e) siv text h = absurd cc
lengths_lawful None siv text h = (grind (arith, nat_tests), grind (arith, nat_tests))

pub line_long : (p : Parts) → None ≡ header_refusal p.slot p.kind p.serial → p.serial ≤ last_serial → length (sealed_line p) ≡ 52 + length (figures p.serial) + 2 * length p.siv + 2 * length p.text
line_long p h l = omega (arith, length_line p, short_header p.slot p.kind p.serial h l)

-- what the writers answer
pub writes_short : (w before : List ℕ) → length before < length w → Writes (room_refusal None (length w) (length before)) w before before (Err ShortOutput)
writes_short w before h = rw (lt-ltb (length before) (length w) h) (refl, refl)

module _ (q : Option Refusal) (w before : List ℕ) (h : None ≡ q) where
  pub refuses_room : length before < length w → Writes (room_refusal q (length w) (length before)) w before before (Err ShortOutput)
  refuses_room l = rw (← h) (writes_short w before l)

  pub writes_it : (after : List ℕ) (n : ℕ) → length w ≤ length before → n ≡ length w → after ≡ over before 0 w → Writes (room_refusal q (length w) (length before)) w before after (Ok n)
  writes_it after n l e a =
      let z : 0 + length w ≡ length w = omega arith in
      rw (← h, le-ltb (length before) (length w) l) (ap Ok e, l, a ∙ ap (λ i. w ++ drop i before) z)
