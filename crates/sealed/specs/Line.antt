-- The sealed line.
use Rattle.std.specs.Prelude.{◌≡◌, ℕ, ◌≤◌, true, List, ◌++◌, length, codes}
use Rattle.std.specs.List.{AllByRecursion}
use Rattle.shape.specs.Decimal.{figures}
use Rattle.sealed.specs.Hex.{Byte, hex_of}
use Rattle.sealed.specs.Limits.{last_slot, first_kind, last_kind, first_serial, last_serial, siv_length, text_length, longest_header, longest_line}

-- what a sealed line says: SIV and text as bytes
pub record Parts : Type 0 where
  pub slot : ℕ
  pub kind : ℕ
  pub serial : ℕ
  pub siv : List ℕ
  pub text : List ℕ

abbrev pub parts_in : (slot kind serial : ℕ) (siv text : List ℕ) → Parts
parts_in slot kind serial siv text = record { slot = slot; kind = kind; serial = serial; siv = siv; text = text }

-- the line up to and with the space before "(siv"
unfoldable pub header_of : (slot kind serial : ℕ) → List ℕ
header_of slot kind serial =
    codes "(sealed (slot " ++ (figures slot ++ (codes ") (kind " ++ (figures kind ++ (codes ") (serial " ++ (figures serial ++ codes ") ")))))

-- the line from there on, its line end counted
unfoldable pub rest_of : (siv text : List ℕ) → List ℕ
rest_of siv text = codes "(siv " ++ (hex_of siv ++ (codes ") (text " ++ (hex_of text ++ codes "))\n")))

unfoldable pub sealed_line : Parts → List ℕ
sealed_line p = header_of p.slot p.kind p.serial ++ rest_of p.siv p.text

pub record LawfulHeader (slot kind serial : ℕ) : Type 0 where
  pub slot_last : slot ≤ last_slot
  pub kind_first : first_kind ≤ kind
  pub kind_last : kind ≤ last_kind
  pub serial_first : first_serial ≤ serial
  pub serial_last : serial ≤ last_serial

pub record Lawful (p : Parts) : Type 0 where
  pub head : LawfulHeader p.slot p.kind p.serial
  pub siv_long : siv_length (length p.siv) ≡ true
  pub siv_bytes : AllByRecursion Byte p.siv
  pub text_long : text_length (length p.text) ≡ true
  pub text_bytes : AllByRecursion Byte p.text

abbrev pub SealedLine : List ℕ → Type 0
SealedLine l = (p : Parts) × Lawful p × (l ≡ sealed_line p)

-- A sealed line can be read in one way only.
abbrev pub OneReading : Type 0
OneReading = (p q : Parts) → Lawful p → Lawful q → sealed_line p ≡ sealed_line q → p ≡ q

-- No sealed line is longer than `longest_line`, and one is as long; likewise the headers.
abbrev pub Longest : Type 0
Longest = ((l : List ℕ) → SealedLine l → length l ≤ longest_line) × ((l : List ℕ) × SealedLine l × (length l ≡ longest_line))

abbrev pub LongestHeader : Type 0
LongestHeader = (slot kind serial : ℕ) → LawfulHeader slot kind serial → length (header_of slot kind serial) ≤ longest_header
