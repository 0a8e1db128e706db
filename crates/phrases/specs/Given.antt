-- The lines that the programs take before sheets.
use Rattle.std.specs.Prelude.{◌≡◌, ℕ, ◌≤◌, true, List, ◌++◌, Some, None, codes, Option, ◌≢◌}
use Rattle.std.specs.List.{AllByRecursion}
use Rattle.shape.specs.Decimal.{figures}
use Rattle.sealed.specs.Hex.{Byte, hex_of}
use Rattle.sealed.specs.Limits.{last_slot, last_serial}
use Rattle.book.specs.Book.{good_key}

-- What stands in a line between a front and an end, if it has both.
abbrev pub Between : (l front end : List ℕ) → Option (List ℕ) → Type 0
Between l front end (Some inner) = l ≡ front ++ (inner ++ end)
Between l front end None = (inner : List ℕ) → l ≢ front ++ (inner ++ end)

-- The line that names a slot and a key, in hexadecimal, with its line end.
pub record KeyLine (l : List ℕ) (slot : ℕ) (key : List ℕ) : Type 0 where
  pub slot_last : slot ≤ last_slot
  pub key_good : good_key key ≡ true
  pub key_bytes : AllByRecursion Byte key
  pub line : l ≡ codes "(key " ++ (figures slot ++ (codes " " ++ (hex_of key ++ codes ")\n")))

-- The line that names the last serial used, with its line end.
pub record LastLine (l : List ℕ) (serial : ℕ) : Type 0 where
  pub fits : serial ≤ last_serial
  pub line : l ≡ codes "(last " ++ (figures serial ++ codes ")\n")
