-- What sealing answers, from its steps, and what follows from the answer.
use Rattle.std.proofs.Common.{◌≡◌, ℕ, ◌<◌, ◌≤◌, Bool, true, cond, List, length, take, drop, Some, None, Ok, Option, Result, sym, refl, ap, ◌∙◌, subst, inr, ⊎_elim, arith}
use Rattle.std.proofs.lemmas.Grind.{common_steps}
use Rattle.std.proofs.lemmas.List.{take_at}
use Rattle.std.proofs.lemmas.Bool.{cases_lt, lt-ltb, le-ltb}
use Rattle.refusal.specs.declared.Refusal.{Refusal}
use Rattle.refusal.specs.declared.Refusal.TheVariants.{ShortOutput}
use Rattle.hash.specs.declared.Strength.{Strength}
use Rattle.stream.specs.Stream.{StreamOf}
use Rattle.shape.specs.Form.{WellShaped}
use Rattle.kinds.specs.Text.{Sheet, text_of}
use Rattle.sealed.specs.Line.{Parts, LawfulHeader}
use Rattle.sealed.specs.Writes.{Writes, room_refusal}
use Rattle.sealed.proofs.Pieces.{one_reading}
use Rattle.book.specs.Answers.{set_checks}
use Rattle.book.specs.Book.{good_key, slot_count, serial_end}
use Rattle.book.specs.Law.{Seals}
use Rattle.sheet.specs.Sheet.{sheet_line, sealed_parts}
use Rattle.sheet.specs.Sealing.{Written, SealedAs, ReadsAs}
use Rattle.sheet.proofs.Lines as lines
use Rattle.sheet.proofs.Shapes.{text_bytes}

-- the checks of slot and key
pub checks_pass : (slot : ℕ) (key : List ℕ) → slot < slot_count → good_key key ≡ true → set_checks slot key ≡ None
checks_pass slot key h k = grind (arith, common_steps)

pub passed_slot : (slot : ℕ) (key : List ℕ) → set_checks slot key ≡ None → slot < slot_count
passed_slot slot key e = grind (arith, common_steps)

module _ {X : Type 0} (lawful : X → Bool) (line : X → List ℕ) (xs : List X) where
  module _ (l : List ℕ) (work : ℕ) (before after : List ℕ) (r : Result ℕ Refusal) where
    -- the text was written and its line too, if there was room
    written_from : Sheet lawful line xs → length (text_of line xs) ≤ work → Writes (room_refusal None (length l) (length before)) l before after r → Written lawful line xs l work before after r
    written_from sheet fits w =
        let P : Bool → Type 0 = λ b. Writes (cond b (Some ShortOutput) None) l before after r in
        let Q : Result ℕ Refusal → Type 0 = λ x. Written lawful line xs l work before after x in
        ⊎_elim
        (λ short.
        let h = subst P (lt-ltb (length before) (length l) short) w in
        subst Q (sym h.0) (inr (inr (sheet, fits, short, refl)), h.1))
        (λ long.
        let h = subst P (le-ltb (length before) (length l) long) w in
        subst Q (sym h.0) (sheet, fits, refl, h.1, h.2))
        (cases_lt (length before) (length l))

    pub sealed_from : (o : Option Refusal) → o ≡ None → Sheet lawful line xs → length (text_of line xs) ≤ work → Writes (room_refusal None (length l) (length before)) l before after r → SealedAs lawful line o xs l work before after r
    sealed_from o e sheet fits w =
        let P : Option Refusal → Type 0 = λ c. SealedAs lawful line c xs l work before after r in
        subst P (sym e) (written_from sheet fits w)

  -- what was sealed passed the checks
  sealed_ok : (o : Option Refusal) (l : List ℕ) (work : ℕ) (before after : List ℕ) (n : ℕ) → SealedAs lawful line o xs l work before after (Ok n) → (o ≡ None) × Sheet lawful line xs × (take n after ≡ l)
  sealed_ok (Some why) l work before after n a = absurd (let e = a.0 in let z : ◌≡◌ {A = ℕ} 0 1 = cc in omega arith)
  sealed_ok None l work before after n a = (refl, a.0, ap (take n) a.4 ∙ take_at l (drop n before) n (sym a.2))

  -- the length that is answered is that of the line
  pub sealed_length : (o : Option Refusal) (l : List ℕ) (work : ℕ) (before after : List ℕ) (n : ℕ) → SealedAs lawful line o xs l work before after (Ok n) → SealedAs lawful line o xs l work before after (Ok (length l))
  sealed_length (Some why) l work before after n a = absurd (let e = a.0 in let z : ◌≡◌ {A = ℕ} 0 1 = cc in omega arith)
  sealed_length None l work before after n a = subst (λ m. SealedAs lawful line None xs l work before after (Ok m)) a.2 a

  module _ (f : StreamOf) (bytes : (seed nonce : List ℕ) (place : ℕ) → f.byte seed nonce place < 256) (s : Strength) (number : ℕ)
      (numbered : (1 ≤ number) × (number ≤ 9)) (shaped : (x : X) → lawful x ≡ true → WellShaped (line x))
      (slot serial : ℕ) (key : List ℕ) (some : 0 < serial) (fits : serial < serial_end)
      (work : ℕ) (before after : List ℕ) (n : ℕ)
      (a : SealedAs lawful line (set_checks slot key) xs (sheet_line f s slot number serial key (text_of line xs)) work before after (Ok n)) where
    pub seals_to : Seals (sheet_line f s) lawful line number slot serial key (take n after) xs
    seals_to =
        let o = sealed_ok (set_checks slot key) (sheet_line f s slot number serial key (text_of line xs)) work before after n a in
        record { are_lawful = o.1.all_lawful; few = o.1.few; short = o.1.short; serial_first = some; serial_last = fits; line_is = o.2 }

    pub reads_as : ReadsAs (take n after) slot number serial
    unfolding sheet_line
    reads_as =
        let o = sealed_ok (set_checks slot key) (sheet_line f s slot number serial key (text_of line xs)) work before after n a in
        let p = sealed_parts f s slot number serial key (text_of line xs) in
        let header : LawfulHeader slot number serial = record {
          slot_last = omega (arith, passed_slot slot key o.0);
          kind_first = numbered.0;
          kind_last = numbered.1;
          serial_first = omega arith;
          serial_last = omega arith;
        } in
        let good = lines.lawful_parts f bytes s slot number serial key (text_of line xs) header (o.1.short, text_bytes lawful line shaped xs o.1.all_lawful) in
        ((p, good, o.2), λ q lawful-q e. let same = one_reading q p lawful-q good (sym e ∙ o.2) in (ap (λ (x : Parts). x.slot) same, ap (λ (x : Parts). x.kind) same, ap (λ (x : Parts). x.serial) same))
