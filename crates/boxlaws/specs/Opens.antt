-- What opens after a key was set.
use Rattle.std.specs.Prelude.{◌≡◌, ℕ, ◌<◌, ◌≤◌, Bool, true, ◌⊎◌, List, ◌++◌, length, drop, if◌then◌else◌, Ok, Err, Result, ◌==◌}
use Rattle.refusal.specs.declared.Refusal.{Refusal}
use Rattle.refusal.specs.declared.Refusal.TheVariants.{OtherKind, EmptySlot, NoSealedLine}
use Rattle.shape.specs.Column.{Column}
use Rattle.sealed.specs.Line.{Parts, Lawful, SealedLine, sealed_line}
use Rattle.kinds.specs.Text.{Sheet}
use Rattle.book.specs.Book.{Sealing, good_key, slot_count, most_items, most_bytes}
use Rattle.book.specs.Law.{Seals}

-- A box with no key answers to a line that is no sealed line with the column of the fault, and to any other that it is
-- of another kind or that its slot is empty.
abbrev pub NoKeyAnswered : (number : ℕ) (l : List ℕ) → Result ℕ Refusal → Type 0
NoKeyAnswered number l r =
    ((SealedLine l → ⊥) × ((c : ℕ) × Column SealedLine l c × (r ≡ Err (NoSealedLine c))))
    ⊎ ((p : Parts) × Lawful p × (l ≡ sealed_line p) × (r ≡ Err (if p.kind == number then EmptySlot else OtherKind)))

-- A kind: which items are lawful, which line each has, and its number.
module _ {X : Type 0} (seal : Sealing) (lawful : X → Bool) (line : X → List ℕ) (number : ℕ) where
  -- A key was just set in a slot. With buffers of full size, whatever list seals to the line l for that slot and under
  -- that key comes out, with any serial: also with one that was opened under an earlier key.
  abbrev pub OpensAnew : (slot : ℕ) (key l : List ℕ) (work : ℕ) (before after : List X) → Result ℕ Refusal → Type 0
  OpensAnew slot key l work before after r =
      slot < slot_count → good_key key ≡ true → most_bytes ≤ work → most_items ≤ length before
      → (serial : ℕ) (items : List X) → Seals seal lawful line number slot serial key l items
      → (r ≡ Ok (length items)) × (after ≡ items ++ drop (length items) before)

-- A list that makes a sheet was sealed, for a slot and with a key that may be set, into an output of `room` bytes that
-- has room for the line, and the line given to a new box with that key in that slot. With buffers of full size the list
-- comes out.
abbrev pub ComesOut : {X : Type 0} → (X → Bool) → (X → List ℕ) → (slot : ℕ) (key l : List ℕ) (work room : ℕ) (items before after : List X) → Result ℕ Refusal → Type 0
ComesOut lawful line slot key l work room items before after r =
    slot < slot_count → good_key key ≡ true → Sheet lawful line items → length l ≤ room → most_bytes ≤ work → most_items ≤ length before
    → (r ≡ Ok (length items)) × (after ≡ items ++ drop (length items) before)
