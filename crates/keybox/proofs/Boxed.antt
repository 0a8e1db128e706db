-- An opening and the book: granted, refused, and not read at all.
use Rattle.std.proofs.Common.{◌≡◌, ℕ, ◌<◌, ◌≤◌, Bool, true, cond, List, [], ◌∷◌, length, get_or, Some, Ok, Err, Option}
use Rattle.refusal.specs.declared.Refusal.{Refusal}
use Rattle.hash.specs.declared.Strength.{Strength}
use Rattle.stream.specs.Stream.{StreamOf}
use Rattle.shape.specs.Form.{WellShaped}
use Rattle.sealed.specs.Line.{Parts, Lawful, SealedLine, sealed_line}
use Rattle.book.specs.declared.Slot.{Slot}
use Rattle.book.specs.Keys.{with_last, empty}
use Rattle.book.specs.Book.{Call, opening, kind_of, hits, slot_count}
use Rattle.book.specs.Stands.{Stands, Noted}
use Rattle.book.specs.Law.{OpenLaw}
use Rattle.book.proofs.Opens as opens
use Rattle.sheet.specs.Sheet.{sheet_line}
use Rattle.keybox.specs.Opening.{first_checks, sheet_text, Answered}
use Rattle.sheet.proofs.Lists.{Ready, ready, apart, one_list}
use Rattle.keybox.proofs.Passing.{Pass, unsealed, passed, refused}

module _ {X : Type 0} (f : StreamOf) (bytes : (seed nonce : List ℕ) (place : ℕ) → f.byte seed nonce place < 256) (s : Strength)
    (lawful : X → Bool) (line : X → List ℕ) (number : ℕ) (reading : List ℕ → Option X)
    (numbered : (1 ≤ number) × (number ≤ 9))
    (shaped : (x : X) → lawful x ≡ true → WellShaped (line x))
    (found : (x : X) → lawful x ≡ true → reading (line x) ≡ Some x)
    (sound : (l : List ℕ) (x : X) → reading l ≡ Some x → (lawful x ≡ true) × (line x ≡ l))
    (slots : List Slot) (l : List ℕ) (work : ℕ) (before : List X) where
  abbrev call : Call
  call = opening l (kind_of number reading) work (length before)

  abbrev Never : Type 0
  Never = (a m : ℕ) (key : List ℕ) (xs : List X) → a < slot_count → Pass f bytes s lawful line number reading numbered shaped found sound slots l work before a m key xs → ⊥

  never_noted : Never → Noted (sheet_line f s) slots slots (call ∷ [])
  never_noted never =
      opens.refused_noted lawful line number reading found sound (Ready f bytes s lawful line number reading numbered shaped found sound) (ready f bytes s lawful line number reading numbered shaped found sound) (sheet_line f s) (apart f bytes s lawful line number reading numbered shaped found sound) (one_list f bytes s lawful line number reading numbered shaped found sound) slots l work before never

  never_law : Never → (why : Refusal) (after : List X) (h : List Call) → Stands (sheet_line f s) slots h → OpenLaw (sheet_line f s) lawful line number h l work before after (Err why)
  never_law never why after h st =
      opens.refused_law lawful line number reading found sound (Ready f bytes s lawful line number reading numbered shaped found sound) (ready f bytes s lawful line number reading numbered shaped found sound) (sheet_line f s) (apart f bytes s lawful line number reading numbered shaped found sound) (one_list f bytes s lawful line number reading numbered shaped found sound) slots l work before why after h never st

  -- the line was not read
  pub unread_noted : (SealedLine l → ⊥) → Noted (sheet_line f s) slots slots (call ∷ [])
  unread_noted n = never_noted (unsealed f bytes s lawful line number reading numbered shaped found sound slots l work before n)

  pub unread_law : (SealedLine l → ⊥) → (why : Refusal) (after : List X) (h : List Call) → Stands (sheet_line f s) slots h → OpenLaw (sheet_line f s) lawful line number h l work before after (Err why)
  unread_law n = never_law (unsealed f bytes s lawful line number reading numbered shaped found sound slots l work before n)

  module _ (p : Parts) (is_lawful : Lawful p) (is_line : l ≡ sealed_line p) where
    abbrev slot : Slot
    slot = get_or slots p.slot empty

    -- the opening was refused
    pub refused_noted : (after : List X) (why : Refusal) → Answered (first_checks s slot number work p) (sheet_text f s slot p) reading before after (Err why) → Noted (sheet_line f s) slots slots (call ∷ [])
    refused_noted after why a = never_noted (refused f bytes s lawful line number reading numbered shaped found sound slots l work before p is_lawful is_line after why a)

    pub refused_law : (after : List X) (why : Refusal) → Answered (first_checks s slot number work p) (sheet_text f s slot p) reading before after (Err why) → (h : List Call) → Stands (sheet_line f s) slots h → OpenLaw (sheet_line f s) lawful line number h l work before after (Err why)
    refused_law after why a = never_law (refused f bytes s lawful line number reading numbered shaped found sound slots l work before p is_lawful is_line after why a) why after

    -- the opening was granted
    module _ (after : List X) (n : ℕ) (a : Answered (first_checks s slot number work p) (sheet_text f s slot p) reading before after (Ok n)) where
      pub granted_noted : (next : List Slot) → ((t : ℕ) → get_or next t empty ≡ cond (hits p.slot t) (with_last slot p.serial) (get_or slots t empty)) → Noted (sheet_line f s) slots next (call ∷ [])
      granted_noted next e =
          let o = passed f bytes s lawful line number reading numbered shaped found sound slots l work before p is_lawful is_line after n a in
          opens.passed_noted lawful line number reading found sound (Ready f bytes s lawful line number reading numbered shaped found sound) (ready f bytes s lawful line number reading numbered shaped found sound) (sheet_line f s) (apart f bytes s lawful line number reading numbered shaped found sound) (one_list f bytes s lawful line number reading numbered shaped found sound) slots l work before p.slot p.serial o.0 o.1.0 o.1.1 next e

      pub granted_law : (h : List Call) → Stands (sheet_line f s) slots h → OpenLaw (sheet_line f s) lawful line number {E = Refusal} h l work before after (Ok n)
      granted_law h st =
          let o = passed f bytes s lawful line number reading numbered shaped found sound slots l work before p is_lawful is_line after n a in
          opens.passed_law lawful line number reading found sound (Ready f bytes s lawful line number reading numbered shaped found sound) (ready f bytes s lawful line number reading numbered shaped found sound) (sheet_line f s) (apart f bytes s lawful line number reading numbered shaped found sound) (one_list f bytes s lawful line number reading numbered shaped found sound) slots l work before p.slot p.serial o.0 o.1.0 o.1.1 h n after o.1.2 o.1.3 st
