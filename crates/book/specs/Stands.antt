-- What ties the slots of a box to the book: only what carries the proof from
-- call to call.
use Rattle.std.specs.Prelude.{◌≡◌, ℕ, ◌<◌, ◌≤◌, List, ◌++◌, Option}
use Rattle.book.specs.declared.Slot.{Slot}
use Rattle.book.specs.Keys.{key_of, last_of, slot_at}
use Rattle.book.specs.Book.{Call, Sealing, Above, key_in, Opened}

-- One slot against its part of the book.
pub record Agrees (slot : Slot) (key : Option (List ℕ)) (opened : ℕ → Type 0) : Type 0 where
  pub key_is : key_of slot ≡ key
  pub above : (m : ℕ) → opened m → m ≤ last_of slot
  pub below : (m : ℕ) → Above opened m → last_of slot < m

-- Each slot agrees with the book; past the eighth all are empty.
abbrev pub Stands : Sealing → List Slot → List Call → Type 0
Stands seal slots h = (s : ℕ) → Agrees (slot_at slots s) (key_in h s) (Opened seal h s)

-- From slots that stand at any book h, the calls lead to slots that stand at
-- the book of the calls after h.
abbrev pub Noted : Sealing → (before after : List Slot) → List Call → Type 0
Noted seal before after calls = (h : List Call) → Stands seal before h → Stands seal after (calls ++ h)
