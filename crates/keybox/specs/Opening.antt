-- What opening a sheet answers, check by check.
use Rattle.std.specs.Prelude.{◌≡◌, ℕ, Bool, false, cond, not, ◌&&◌, ◌⊎◌, List, [], length, Some, None, Err, Option, Result, ◌==◌, nat_lt}
use Rattle.std.specs.Option.{unwrap_or}
use Rattle.refusal.specs.declared.Refusal.{Refusal}
use Rattle.refusal.specs.declared.Refusal.TheVariants.{OtherKind, EmptySlot, StaleSerial, SivLength, ShortWork, WrongSiv, NoSealedLine}
use Rattle.hash.specs.declared.Strength.{Strength}
use Rattle.hash.specs.Strength.{siv_length}
use Rattle.stream.specs.Stream.{StreamOf}
use Rattle.hs1.specs.Checks.{refuse_if, or_else}
use Rattle.hs1.specs.Seal.{opened}
use Rattle.kinds.specs.Text.{Fills}
use Rattle.sealed.specs.Line.{Parts, Lawful, SealedLine, header_of, sealed_line}
use Rattle.shape.specs.Column.{Column}
use Rattle.book.specs.Book.{hits}
use Rattle.book.specs.declared.Slot.{Slot}
use Rattle.book.specs.Keys.{key_of, last_of, slot_at, with_last}
use Rattle.sheet.specs.Sheet.{nonce_of}

-- a slot without a key
abbrev pub no_key : Option (List ℕ) → Option Refusal
no_key None = Some EmptySlot
no_key (Some key) = None

-- The checks before the text is unmasked, in their order: the kind, a key in
-- the slot, a serial above the last, the length of the SIV, the work buffer.
abbrev pub first_checks : Strength → Slot → (number work : ℕ) → Parts → Option Refusal
first_checks s slot number work p =
    or_else (refuse_if (not (p.kind == number)) OtherKind)
    (or_else (no_key (key_of slot))
    (or_else (refuse_if (not (nat_lt (last_of slot) p.serial)) StaleSerial)
    (or_else (refuse_if (not (length p.siv == siv_length s)) SivLength)
    (refuse_if (nat_lt work (length p.text)) ShortWork))))

-- the text that the sheet opens to under the key of the slot, if the SIV is right
abbrev pub sheet_text : StreamOf → Strength → Slot → Parts → Option (List ℕ)
sheet_text f s slot p =
    opened f s (unwrap_or (key_of slot) []) (nonce_of p.serial) (header_of p.slot p.kind p.serial) p.siv p.text

-- What is answered and what the places hold afterwards: the first check that
-- fails; then a wrong SIV; then what filling the places from the text answers,
-- which refuses a text that is no sheet, then too few places.
abbrev pub Answered : {X : Type 0} → Option Refusal → Option (List ℕ) → (List ℕ → Option X) → (before after : List X) → Result ℕ Refusal → Type 0
Answered (Some why) text reading before after r = (r ≡ Err why) × (after ≡ before)
Answered None None reading before after r = (r ≡ Err WrongSiv) × (after ≡ before)
Answered None (Some text) reading before after r = Fills reading text before after r

-- What giving a box any bytes answers: bytes that are no sealed line are refused
-- with the column of the fault; else the answer is that of opening the sheet.
abbrev pub LineAnswered : {X : Type 0} → StreamOf → Strength → (slots : List Slot) (number work : ℕ) → (List ℕ → Option X) → (l : List ℕ) (before after : List X) → Result ℕ Refusal → Type 0
LineAnswered f s slots number work reading l before after r =
    ((SealedLine l → ⊥) × ((c : ℕ) × Column SealedLine l c × (r ≡ Err (NoSealedLine c))) × (after ≡ before))
    ⊎ ((p : Parts) × Lawful p × (l ≡ sealed_line p) × Answered (first_checks s (slot_at slots p.slot) number work p) (sheet_text f s (slot_at slots p.slot) p) reading before after r)

-- The slots after giving a box any bytes: as they were on a refusal; else the slot that the line names has the line's
-- serial for its last, under the same key, and the others are as they were.
pub record SlotsAfter (l : List ℕ) (before after : List Slot) (opened : Bool) : Type 0 where
  pub refused : opened ≡ false → (s : ℕ) → slot_at after s ≡ slot_at before s
  pub granted : (p : Parts) → Lawful p → l ≡ sealed_line p → (s : ℕ) → slot_at after s ≡ cond (opened && hits p.slot s) (with_last (slot_at before p.slot) p.serial) (slot_at before s)
