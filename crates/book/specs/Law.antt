-- The law of an opening, by the book alone.
use Rattle.std.specs.Prelude.{◌≡◌, ℕ, ◌<◌, ◌≤◌, Bool, true, List, ◌++◌, length, drop, is_ok, Some, Ok, Result}
use Rattle.std.specs.List.{flat_map, AllByRecursion}
use Rattle.book.specs.declared.Slot.{Slot}
use Rattle.book.specs.Keys.{key_of, last_of, slot_at}
use Rattle.book.specs.Book.{Call, Sealing, key_in, Fresh, most_items, most_bytes, serial_end}

-- A way of sealing, and a kind: which items are lawful, which line each has,
-- and the kind's number.
module _ {X : Type 0} (seal : Sealing) (lawful : X → Bool) (line : X → List ℕ) (number : ℕ) where
  -- The list of items is lawful and within the limits, and seals to the line l
  -- for this slot, with this serial and under this key.
  pub record Seals (slot serial : ℕ) (key l : List ℕ) (items : List X) : Type 0 where
    pub are_lawful : AllByRecursion (λ x. lawful x ≡ true) items
    pub few : length items ≤ most_items
    pub short : length (flat_map line items) ≤ most_bytes
    pub serial_first : 0 < serial
    pub serial_last : serial < serial_end
    pub line_is : l ≡ seal slot number serial key (flat_map line items)

  -- Some list of lawful items seals to the line with a fresh serial under the
  -- key that the book has for the slot.
  abbrev pub Openable : List Call → (l : List ℕ) → Type 0
  Openable h l =
      (slot : ℕ) × (serial : ℕ) × (key : List ℕ) × (items : List X)
      × (key_in h slot ≡ Some key) × Seals slot serial key l items × Fresh seal h slot serial

  -- What an opening that was granted has delivered: the items that seal to the
  -- line, at the front of the tray; and no other list seals to it.
  pub record Delivered (h : List Call) (l : List ℕ) (before after : List X) (n : ℕ) : Type 0 where
    pub slot : ℕ
    pub serial : ℕ
    pub key : List ℕ
    pub items : List X
    pub key_is : key_in h slot ≡ Some key
    pub seals : Seals slot serial key l items
    pub fresh : Fresh seal h slot serial
    pub count : n ≡ length items
    pub places : after ≡ items ++ drop n before
    pub only : (s m : ℕ) (k : List ℕ) (others : List X) → key_in h s ≡ Some k → Seals s m k l others → others ≡ items

  -- The law: with buffers of full size the line opens exactly when some list of
  -- lawful items seals to it with a fresh serial under the key then in the slot;
  -- and what comes out is that list and no other.
  pub record OpenLaw {E : Type 0} (h : List Call) (l : List ℕ) (work : ℕ) (before after : List X) (r : Result ℕ E) : Type 0 where
    pub exactly : most_bytes ≤ work → most_items ≤ length before → (is_ok r ≡ true → Openable h l) × (Openable h l → is_ok r ≡ true)
    pub delivered : (n : ℕ) → r ≡ Ok n → Delivered h l before after n

  -- What the box itself asks of a slot as it has it.
  pub record Passes (slots : List Slot) (l : List ℕ) (work room s m : ℕ) (key : List ℕ) (items : List X) : Type 0 where
    pub key_is : key_of (slot_at slots s) ≡ Some key
    pub later : last_of (slot_at slots s) < m
    pub seals : Seals s m key l items
    pub space : length (flat_map line items) ≤ work
    pub place : length items ≤ room
