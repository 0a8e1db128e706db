-- The laws of sealing and opening, for every stream, strength, key, nonce and header.
use Rattle.std.specs.Prelude.{◌≡◌, ℕ, List, Some}
use Rattle.hash.specs.declared.Strength.{Strength}
use Rattle.stream.specs.Stream.{StreamOf}
use Rattle.hs1.specs.Seal.{siv, ciphertext, opened}

-- What was sealed opens to the same text.
abbrev pub SealedOpens : Type 0
SealedOpens =
    (f : StreamOf) (s : Strength) (key nonce header text : List ℕ)
    → opened f s key nonce header (siv f s key nonce header text) (ciphertext f s key nonce header text) ≡ Some text

-- What opens is what sealing gives: sealing the text again gives this SIV and this ciphertext, byte for byte. So an
-- altered SIV, header, nonce or ciphertext opens only if it is itself what sealing gives.
abbrev pub OpenedWasSealed : Type 0
OpenedWasSealed =
    (f : StreamOf) (s : Strength) (key nonce header iv cipher text : List ℕ)
    → opened f s key nonce header iv cipher ≡ Some text
    → (siv f s key nonce header text ≡ iv) × (ciphertext f s key nonce header text ≡ cipher)

-- A SIV and a ciphertext have at most one text.
abbrev pub OneText : Type 0
OneText =
    (f : StreamOf) (s : Strength) (key nonce header text other : List ℕ)
    → siv f s key nonce header text ≡ siv f s key nonce header other
    → ciphertext f s key nonce header text ≡ ciphertext f s key nonce header other
    → text ≡ other
