-- The slots of a box: the key of each, and its last serial.
use Rattle.std.specs.Prelude.{ℕ, List, take, slice_index_or, None, Option}
use Rattle.std.specs.Option.{option_map}
use Rattle.book.specs.declared.key.Key.{Key}
use Rattle.book.specs.declared.Slot.{Slot}

-- the bytes of a key
abbrev pub bytes_of : Key → List ℕ
bytes_of k = take k.len k.bytes

-- the key of a slot, if it has one
abbrev pub key_of : Slot → Option (List ℕ)
key_of slot = option_map bytes_of slot.key

-- the last serial of a slot
abbrev pub last_of : Slot → ℕ
last_of slot = slot.last

-- a slot with no key, from which no serial was opened
abbrev pub empty : Slot
empty = record { key = None; last = 0 }

-- the slot s: an empty one past the last
abbrev pub slot_at : List Slot → ℕ → Slot
slot_at slots s = slice_index_or slots s empty

-- a slot with another last serial
abbrev pub with_last : Slot → ℕ → Slot
with_last slot serial = record { key = slot.key; last = serial }
