-- The sealed line piece by piece, for its reader: literals, and tokens that a bracket follows.
use Rattle.std.specs.Prelude.{◌≡◌, ℕ, ◌+◌, ◌-◌, ◌*◌, ◌/◌, ◌<◌, ◌≤◌, Bool, true, ◌⊎◌, List, ◌++◌, length, take, drop, Ok, Err, Result, codes, slice_index}
use Rattle.std.specs.Borrow.{Bor}
use Rattle.std.specs.Str.Parse.{digits_value}
use Rattle.std.specs.List.{AllByRecursion}
use Rattle.shape.specs.declared.value.Leading.{Leading}
use Rattle.shape.specs.Decimal.{figures}
use Rattle.shape.specs.Form.{Digit}
use Rattle.shape.specs.Outcome.{Read, Fault, CarriesTo, Then, Is}
use Rattle.shape.specs.Token.{Munch, Token}
use Rattle.sealed.specs.Hex.{Byte, hex_of}
use Rattle.sealed.specs.Limits.{last_slot, first_kind, last_kind, first_serial, last_serial, siv_length, text_length}
use Rattle.sealed.specs.Line.{LawfulHeader}

-- the digits of a value between two
abbrev pub Value : (low high : ℕ) → List ℕ → Type 0
Value low high t = (n : ℕ) × (low ≤ n) × (n ≤ high) × (t ≡ figures n)

-- hexadecimal digits of a number of bytes that is allowed
abbrev pub HexOf : (ℕ → Bool) → List ℕ → Type 0
HexOf allowed t = (bytes : List ℕ) × AllByRecursion Byte bytes × (allowed (length bytes) ≡ true) × (t ≡ hex_of bytes)

-- what is left of a line, its line end not counted, from each literal on
abbrev pub FromEnd : List ℕ → Type 0
FromEnd = Is (codes "))")

abbrev pub FromText : List ℕ → Type 0
FromText = Then (Is (codes ") (text ")) (Then (HexOf text_length) FromEnd)

abbrev pub FromSiv : List ℕ → Type 0
FromSiv = Then (Is (codes ") (siv ")) (Then (HexOf siv_length) FromText)

abbrev pub FromSerial : List ℕ → Type 0
FromSerial = Then (Is (codes ") (serial ")) (Then (Value first_serial last_serial) FromSiv)

abbrev pub FromKind : List ℕ → Type 0
FromKind = Then (Is (codes ") (kind ")) (Then (Value first_kind last_kind) FromSerial)

abbrev pub Whole : List ℕ → Type 0
Whole = Then (Is (codes "(sealed (slot ")) (Then (Value 0 last_slot) FromKind)

-- The first n bytes are digits of the value v, at most `high`, and with one digit more it is above.
pub record Counts (high : ℕ) (s : List ℕ) (n v : ℕ) : Type 0 where
  pub fits : n ≤ length s
  pub all : AllByRecursion Digit (take n s)
  pub is : v ≡ digits_value 10 (take n s)
  pub small : v ≤ high
  pub stops : n < length s → Digit (slice_index s n) → high < v * 10 + (slice_index s n - 48)

-- s begins with the literal p and then the token t of T, n bytes together, and no longer token of T stands there
pub record Found (p : List ℕ) (T : List ℕ → Type 0) (s : List ℕ) (n : ℕ) (t : List ℕ) : Type 0 where
  pub literal : Read (Is p) s (length p)
  pub cut : drop (length p) s ≡ t ++ drop n s
  pub long : length p + length t ≡ n
  pub munch : Munch T (drop (length p) s) (length t)
  pub is : T t

-- s goes wrong after n bytes: within the literal, or in the token after it
abbrev pub Missed : List ℕ → (List ℕ → Type 0) → List ℕ → ℕ → Type 0
Missed p T s n = Fault (Is p) s n ⊎ ((m : ℕ) × Read (Is p) s (length p) × Token T (drop (length p) s) (Err m) × (n ≡ length p + m))

-- s begins with the front of a sealed line up to the digits of its serial, which end at `end`
pub record Labelled (s : List ℕ) (end slot kind serial : ℕ) : Type 0 where
  pub fits : end ≤ length s
  pub lawful : LawfulHeader slot kind serial
  pub cut : s ≡ codes "(sealed (slot " ++ (figures slot ++ (codes ") (kind " ++ (figures kind ++ (codes ") (serial " ++ (figures serial ++ drop end s)))))
  pub goes : CarriesTo Whole FromSiv s end

-- The value at the front, and how many digits it has.
abbrev pub ReadsValue : (low high : ℕ) → List ℕ → Result (Leading ℕ) ℕ → Type 0
ReadsValue low high s (Ok f) = Token (Value low high) s (Ok f.len) × (take f.len s ≡ figures f.value) × (low ≤ f.value) × (f.value ≤ high)
ReadsValue low high s (Err n) = Token (Value low high) s (Err n)

-- the literal p at `at`, up to `end`
abbrev pub ReadsLiteral : (p s : List ℕ) (at end : ℕ) → Result (Unit {0}) ℕ → Type 0
ReadsLiteral p s at end (Ok _) = (at ≤ end) × Read (Is p) (drop at s) (end - at)
ReadsLiteral p s at end (Err n) = (at ≤ n) × (n ≤ length s) × Fault (Is p) (drop at s) (n - at)

-- the literal p at `at` and a value after it, up to `end`
abbrev pub ReadsNumber : (p : List ℕ) (low high : ℕ) (s : List ℕ) (at end : ℕ) → Result ℕ ℕ → Type 0
ReadsNumber p low high s at end (Ok v) = (at ≤ end) × (end ≤ length s) × (low ≤ v) × (v ≤ high) × Found p (Value low high) (drop at s) (end - at) (figures v)
ReadsNumber p low high s at end (Err n) = (at ≤ n) × (n ≤ length s) × Missed p (Value low high) (drop at s) (n - at)

-- no number above `most` is allowed, and that one is
abbrev pub Most : (ℕ → Bool) → ℕ → Type 0
Most allowed most = (allowed most ≡ true) × ((n : ℕ) → allowed n ≡ true → n ≤ most)

-- the literal p at `at` and the digits d after it, up to `end`, whichever numbers of bytes up to `most` are allowed
abbrev pub FindsDigits : (p : List ℕ) (most : ℕ) (s : List ℕ) (at end : ℕ) (d : List ℕ) → Type 0
FindsDigits p most s at end d =
    (at ≤ end) × (end ≤ length s) × (length d ≤ 2 * most) ×
    ((allowed : ℕ → Bool) → Most allowed most → (allowed (length d / 2) ≡ true → Found p (HexOf allowed) (drop at s) (end - at) d)
    × ((allowed (length d / 2) ≡ true → ⊥) → Missed p (HexOf allowed) (drop at s) (end - at)))

abbrev pub ReadsDigits : (p : List ℕ) (most : ℕ) (s : List ℕ) (at end : ℕ) → Result (Bor (List ℕ)) ℕ → Type 0
ReadsDigits p most s at end (Ok d) = FindsDigits p most s at end d.now
ReadsDigits p most s at end (Err n) = (at ≤ n) × (n ≤ length s) × ((allowed : ℕ → Bool) → Most allowed most → Missed p (HexOf allowed) (drop at s) (n - at))
