-- Bytes in hexadecimal: two small-letter digits for each, the higher one first.
use Rattle.std.specs.Prelude.{ℕ, ◌+◌, ◌-◌, ◌*◌, ◌/◌, ◌%◌, ◌<◌, ◌≤◌, cond, ◌⊎◌, List, [], ◌∷◌, nat_lt}
use Rattle.shape.specs.Form.{Digit}

abbrev pub Byte : ℕ → Type 0
Byte b = b < 256

-- "0" to "9" and "a" to "f"
unfoldable pub hex_digit : ℕ → ℕ
hex_digit n = cond (nat_lt n 10) (48 + n) (87 + n)

abbrev pub hex_of : List ℕ → List ℕ
hex_of [] = []
hex_of (b ∷ bytes) = hex_digit (b / 16) ∷ (hex_digit (b % 16) ∷ hex_of bytes)

abbrev pub HexDigit : ℕ → Type 0
HexDigit c = Digit c ⊎ ((97 ≤ c) × (c ≤ 102))

-- the value of a digit, 0 for any other byte
unfoldable pub digit_value : ℕ → ℕ
digit_value c = cond (nat_lt c 48) 0 (cond (nat_lt c 58) (c - 48) (cond (nat_lt c 97) 0 (cond (nat_lt c 103) (c - 87) 0)))

-- the bytes that digits write
abbrev pub bytes_of : List ℕ → List ℕ
bytes_of [] = []
bytes_of (c ∷ []) = []
bytes_of (c ∷ (d ∷ digits)) = (digit_value c * 16 + digit_value d) ∷ bytes_of digits
