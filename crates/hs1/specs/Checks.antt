-- What the calls refuse, in the order of their checks, and what they leave in the buffers.
use Rattle.std.specs.Prelude.{ℕ, Bool, cond, not, ◌||◌, List, ◌++◌, length, drop, replicate, Some, None, Ok, Err, Option, Result, ◌==◌, nat_lt}
use Rattle.refusal.specs.declared.Refusal.{Refusal}
use Rattle.refusal.specs.declared.Refusal.TheVariants.{KeyLength, NonceLength, TooLong, SivLength, ShortOutput, WrongSiv}
use Rattle.hash.specs.declared.Strength.{Strength}
use Rattle.hash.specs.Strength.{siv_length}

-- The limits, in bytes: a key's length, a nonce's, and that of a header, a text or a ciphertext.
abbrev pub longest_key : ℕ
longest_key = 32

abbrev pub nonce_length : ℕ
nonce_length = 12

abbrev pub longest : ℕ
longest = 65536

-- one check
abbrev pub refuse_if : Bool → Refusal → Option Refusal
refuse_if test why = cond test (Some why) None

-- one check after others: the first refusal counts
abbrev pub or_else : Option Refusal → Option Refusal → Option Refusal
or_else (Some why) next = Some why
or_else None next = next

-- what all calls check, from the lengths of key, nonce, header and text or ciphertext
abbrev pub input_checks : (key nonce header text : ℕ) → Option Refusal
input_checks key nonce header text =
    or_else (refuse_if (key == 0 || nat_lt longest_key key) KeyLength)
    (or_else (refuse_if (not (nonce == nonce_length)) NonceLength)
    (refuse_if (nat_lt longest header || nat_lt longest text) TooLong))

-- what sealing checks, also from the sizes of the buffers for the SIV and the ciphertext
abbrev pub seal_checks : Strength → (key nonce header text siv_room room : ℕ) → Option Refusal
seal_checks s key nonce header text siv_room room =
    or_else (input_checks key nonce header text)
    (refuse_if (nat_lt siv_room (siv_length s) || nat_lt room text) ShortOutput)

-- what opening checks before it opens: also the length of the SIV, and in the copying form the size of the buffer for the text
abbrev pub siv_checks : Strength → (key nonce header cipher iv : ℕ) → Option Refusal
siv_checks s key nonce header cipher iv =
    or_else (input_checks key nonce header cipher) (refuse_if (not (iv == siv_length s)) SivLength)

abbrev pub open_checks : Strength → (key nonce header cipher iv room : ℕ) → Option Refusal
open_checks s key nonce header cipher iv room =
    or_else (siv_checks s key nonce header cipher iv) (refuse_if (nat_lt room cipher) ShortOutput)

-- a text that did not open
abbrev pub wrong_siv : Option (List ℕ) → Option Refusal
wrong_siv (Some text) = None
wrong_siv None = Some WrongSiv

-- the answer of a call
abbrev pub answer : Option Refusal → Result (Unit {0}) Refusal
answer None = Ok tt
answer (Some why) = Err why

-- A buffer after a call: as it was where the call is refused, and else with those bytes at its front.
abbrev pub put : Option Refusal → (bytes buffer : List ℕ) → List ℕ
put (Some why) bytes buffer = buffer
put None bytes buffer = bytes ++ drop (length bytes) buffer

-- what stands where n bytes were opened: the text, or zeros
abbrev pub cleared : ℕ → Option (List ℕ) → List ℕ
cleared n (Some text) = text
cleared n None = replicate n 0
