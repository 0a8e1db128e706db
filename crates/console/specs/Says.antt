-- What the opener prints for a line, by the book of the calls before it.
use Rattle.std.specs.Prelude.{◌≡◌, ℕ, ◌<◌, ◌⊎◌, List, ◌∷◌, length, Some, None, Option, ◌≢◌}
use Rattle.refusal.specs.declared.Refusal.TheVariants.{OtherKind, EmptySlot, StaleSerial, SivLength, WrongSiv, NoSealedLine, NoSheet}
use Rattle.hash.specs.declared.Strength.TheVariants.{Mid}
use Rattle.hash.specs.Strength.{siv_length}
use Rattle.stream.specs.Stream.{StreamOf}
use Rattle.chacha.specs.Rounds.{chacha_of}
use Rattle.hs1.specs.Seal.{opened}
use Rattle.shape.specs.Column.{Column}
use Rattle.kinds.specs.Text.{Reads, Faulty}
use Rattle.items.specs.Job.{job_line, job_reading}
use Rattle.items.specs.Setting.{setting_line, setting_reading}
use Rattle.sealed.specs.Line.{Parts, Lawful, SealedLine, header_of, sealed_line}
use Rattle.book.specs.Book.{Call, Sealing, opening, kind_of, key_in, Fresh, most_items, most_bytes}
use Rattle.sheet.specs.Sheet.{nonce_of, sheet_line}
use Rattle.phrases.specs.Printed.{refused_line, opened_lines}

-- The suite of the opener is hs1-siv: ChaCha with 12 rounds, strength mid.
abbrev pub stream : StreamOf
stream = chacha_of 12

abbrev pub sealing : Sealing
sealing = sheet_line stream Mid

-- A kind: which line each item has, and which item has a line.
module _ {X : Type 0} (line : X → List ℕ) (reading : List ℕ → Option X) where
  -- Of a text that was unmasked: its items, or its first fault. Nothing was unmasked where the SIV is wrong.
  abbrev pub OfText : Option (List ℕ) → (printed : List ℕ) → Type 0
  OfText None p = p ≡ refused_line WrongSiv
  OfText (Some t) p =
      ((xs : List X) × Reads reading t xs × (p ≡ opened_lines line xs))
      ⊎ ((n : ℕ) × (c : ℕ) × Faulty reading t n c × (p ≡ refused_line (NoSheet n c)))

  -- Of a sheet, by the key that the book has for its slot: none; or a serial that is not fresh; or a SIV of another
  -- length; else what its text says.
  abbrev pub OfSheet : Option (List ℕ) → List Call → Parts → (printed : List ℕ) → Type 0
  OfSheet None h q p = p ≡ refused_line EmptySlot
  OfSheet (Some key) h q p =
      ((Fresh sealing h q.slot q.serial → ⊥) × (p ≡ refused_line StaleSerial))
      ⊎ (Fresh sealing h q.slot q.serial
      × (((length q.siv ≢ siv_length Mid) × (p ≡ refused_line SivLength))
      ⊎ ((length q.siv ≡ siv_length Mid)
      × OfText (opened stream Mid key (nonce_of q.serial) (header_of q.slot q.kind q.serial) q.siv q.text) p)))

-- A line given to the box as a kind, with buffers of full size.
abbrev pub given : {X : Type 0} → (number : ℕ) → (List ℕ → Option X) → (l : List ℕ) → Call
given number reading l = opening l (kind_of number reading) most_bytes most_items

-- Of a sealed line: it is opened as the kind that it names, 1 or 2; a kind above them is refused.
abbrev pub OfKind : List Call → (l : List ℕ) → Parts → (printed : List ℕ) → List Call → Type 0
OfKind h l q p g =
    ((q.kind ≡ 1) × OfSheet job_line job_reading (key_in h q.slot) h q p × (g ≡ given 1 job_reading l ∷ h))
    ⊎ (((q.kind ≡ 2) × OfSheet setting_line setting_reading (key_in h q.slot) h q p × (g ≡ given 2 setting_reading l ∷ h))
    ⊎ ((2 < q.kind) × (p ≡ refused_line OtherKind) × (g ≡ h)))

-- What is printed for a line after the calls h, and the calls then. Bytes that are no sealed line are refused with the
-- column of the fault.
abbrev pub Says : List Call → (l printed : List ℕ) → List Call → Type 0
Says h l p g =
    ((SealedLine l → ⊥) × ((c : ℕ) × Column SealedLine l c × (p ≡ refused_line (NoSealedLine c))) × (g ≡ h))
    ⊎ ((q : Parts) × Lawful q × (l ≡ sealed_line q) × OfKind h l q p g)
