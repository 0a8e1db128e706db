-- Texts that are a number or bytes in hexadecimal as a whole.
use Rattle.std.specs.Prelude.{◌≡◌, ℕ, ◌≤◌, List, ◌++◌, length, drop, Some, None, Option, ◌≢◌}
use Rattle.std.specs.List.{AllByRecursion}
use Rattle.shape.specs.Decimal.{figures}
use Rattle.sealed.specs.Hex.{Byte, hex_of}
use Rattle.sealed.specs.Limits.{last_serial}

-- The number that a text writes, if it writes one of four bytes.
abbrev pub NumberRead : List ℕ → Option ℕ → Type 0
NumberRead text (Some n) = (n ≤ last_serial) × (text ≡ figures n)
NumberRead text None = (n : ℕ) → n ≤ last_serial → text ≢ figures n

-- The bytes that a text writes in hexadecimal, put to the front of a buffer if it has room for them. The buffer stays
-- as it was where nothing is answered.
abbrev pub HexRead : (text before after : List ℕ) → Option ℕ → Type 0
HexRead text before after (Some n) =
    (bytes : List ℕ) × AllByRecursion Byte bytes × (text ≡ hex_of bytes) × (n ≡ length bytes) × (n ≤ length before) × (after ≡ bytes ++ drop n before)
HexRead text before after None =
    ((bytes : List ℕ) → AllByRecursion Byte bytes → length bytes ≤ length before → text ≢ hex_of bytes) × (after ≡ before)
