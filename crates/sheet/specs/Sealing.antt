-- What sealing a list of items answers, check by check.
use Rattle.std.specs.Prelude.{◌≡◌, ℕ, ◌<◌, ◌≤◌, Bool, ◌⊎◌, List, ◌++◌, length, drop, Some, None, Ok, Err, Option, Result}
use Rattle.refusal.specs.declared.Refusal.{Refusal}
use Rattle.refusal.specs.declared.Refusal.TheVariants.{ShortWork, ShortOutput}
use Rattle.kinds.specs.Text.{Sheet, Measures, text_of}
use Rattle.sealed.specs.Line.{Parts, Lawful, SealedLine, sealed_line}
use Rattle.book.specs.Book.{Sealing, slot_count}
use Rattle.book.specs.Law.{Seals}

-- A kind: which items are lawful and which line each has.
module _ {X : Type 0} (lawful : X → Bool) (line : X → List ℕ) where
  -- Writing the text of a list into a work buffer, for sealing: a buffer that is too short is refused by 1.
  abbrev pub TextWritten : List X → (before after : List ℕ) → Result ℕ Refusal → Type 0
  TextWritten xs before after (Ok n) =
      Sheet lawful line xs × (n ≡ length (text_of line xs)) × (n ≤ length before) × (after ≡ text_of line xs ++ drop n before)
  TextWritten xs before after (Err why) =
      Measures lawful line xs (Err why) ⊎ (Sheet lawful line xs × (length before < length (text_of line xs)) × (why ≡ ShortWork))

  -- What comes after the checks of slot and key, for items that seal to the line l: the items are refused as measuring
  -- refuses them (the first unlawful one, then too many items or bytes), then a work buffer shorter than the text, then
  -- an output shorter than the line. Else the line stands at the front of the output and its length is answered. The
  -- bytes past it stay, and all of them on a refusal.
  abbrev pub Written : List X → (l : List ℕ) (work : ℕ) (before after : List ℕ) → Result ℕ Refusal → Type 0
  Written xs l work before after (Ok n) =
      Sheet lawful line xs × (length (text_of line xs) ≤ work) × (n ≡ length l) × (n ≤ length before) × (after ≡ l ++ drop n before)
  Written xs l work before after (Err why) =
      (Measures lawful line xs (Err why)
      ⊎ ((Sheet lawful line xs × (work < length (text_of line xs)) × (why ≡ ShortWork))
      ⊎ (Sheet lawful line xs × (length (text_of line xs) ≤ work) × (length before < length l) × (why ≡ ShortOutput))))
      × (after ≡ before)

  -- Sealing: the checks of slot and key first, then the rest.
  abbrev pub SealedAs : Option Refusal → List X → (l : List ℕ) (work : ℕ) (before after : List ℕ) → Result ℕ Refusal → Type 0
  SealedAs (Some why) xs l work before after r = (r ≡ Err why) × (after ≡ before)
  SealedAs None xs l work before after r = Written xs l work before after r

-- Two lists of one kind that seal to one line, for one slot, serial and key, are the same list.
abbrev pub OneList : {X : Type 0} → Sealing → (X → Bool) → (X → List ℕ) → (number : ℕ) → Type 0
OneList {X} seal lawful line number =
    (slot serial : ℕ) (key l : List ℕ) (xs ys : List X) → slot < slot_count
    → Seals seal lawful line number slot serial key l xs → Seals seal lawful line number slot serial key l ys → xs ≡ ys

-- The line l reads back as a sealed line with this slot, kind and serial, and as no other.
abbrev pub ReadsAs : (l : List ℕ) (slot kind serial : ℕ) → Type 0
ReadsAs l slot kind serial =
    SealedLine l × ((p : Parts) → Lawful p → l ≡ sealed_line p → (p.slot ≡ slot) × (p.kind ≡ kind) × (p.serial ≡ serial))
