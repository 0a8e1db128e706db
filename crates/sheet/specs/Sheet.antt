-- What a text seals to.
use Rattle.std.specs.Prelude.{ℕ, List}
use Rattle.hash.specs.declared.Strength.{Strength}
use Rattle.hash.specs.Bytes.{str}
use Rattle.stream.specs.Stream.{StreamOf}
use Rattle.hs1.specs.Seal.{siv, ciphertext}
use Rattle.sealed.specs.Line.{Parts, header_of, sealed_line}
use Rattle.book.specs.Book.{Sealing}

-- the nonce of a sheet: its serial as 12 bytes, lowest first
unfoldable pub nonce_of : (serial : ℕ) → List ℕ
nonce_of serial = str 12 serial

-- What the line says that a text seals to: the SIV and the ciphertext of the
-- text, under the header that the line begins with.
abbrev pub sealed_parts : StreamOf → Strength → (slot kind serial : ℕ) (key text : List ℕ) → Parts
sealed_parts f s slot kind serial key text =
    record {
      slot = slot;
      kind = kind;
      serial = serial;
      siv = siv f s key (nonce_of serial) (header_of slot kind serial) text;
      text = ciphertext f s key (nonce_of serial) (header_of slot kind serial) text;
    }

-- The sealed line of a text under a stream and a strength, for a slot, a kind,
-- a serial and a key.
unfoldable pub sheet_line : StreamOf → Strength → Sealing
sheet_line f s slot kind serial key text = sealed_line (sealed_parts f s slot kind serial key text)
