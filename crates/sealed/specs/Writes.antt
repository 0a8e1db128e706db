-- Writing: what a buffer holds afterwards, and which refusal comes first.
use Rattle.std.specs.Prelude.{◌≡◌, ℕ, ◌+◌, ◌<◌, ◌≤◌, cond, ◌||◌, List, ◌++◌, length, take, drop, Some, None, Ok, Err, Option, Result, nat_lt}
use Rattle.refusal.specs.declared.Refusal.{Refusal}
use Rattle.refusal.specs.declared.Refusal.TheVariants.{NoSlot, OtherKind, StaleSerial, SivLength, LargeSheet, ShortOutput, ShortWork}
use Rattle.sealed.specs.Line.{Parts, sealed_line}
use Rattle.sealed.specs.Limits.{last_slot, first_kind, last_kind, first_serial, siv_length, text_length}

-- a buffer with w written from the place `at` on, the rest as it was
abbrev pub over : (before : List ℕ) (at : ℕ) (w : List ℕ) → List ℕ
over before at w = take at before ++ (w ++ drop (at + length w) before)

-- what is wrong with the numbers of a header, the first that is
abbrev pub header_refusal : (slot kind serial : ℕ) → Option Refusal
header_refusal slot kind serial =
    cond (nat_lt last_slot slot) (Some NoSlot) (cond (nat_lt kind first_kind || nat_lt last_kind kind) (Some OtherKind) (cond (nat_lt serial first_serial) (Some StaleSerial) None))

-- the answer of a check
abbrev pub answer : Option Refusal → Result (Unit {0}) Refusal
answer (Some e) = Err e
answer None = Ok tt

-- and after them with the lengths of SIV and text
abbrev pub length_refusal : Option Refusal → (siv text : ℕ) → Option Refusal
length_refusal (Some e) siv text = Some e
length_refusal None siv text = cond (siv_length siv) (cond (text_length text) None (Some LargeSheet)) (Some SivLength)

-- and last, that the output has less room than is needed
abbrev pub room_refusal : Option Refusal → (needed room : ℕ) → Option Refusal
room_refusal (Some e) needed room = Some e
room_refusal None needed room = cond (nat_lt room needed) (Some ShortOutput) None

-- The answer of a writer of w: a refusal, and the buffer as it was, or the length of w, which stands at the front.
abbrev pub Writes : Option Refusal → (w before after : List ℕ) → Result ℕ Refusal → Type 0
Writes (Some e) w before after r = (r ≡ Err e) × (after ≡ before)
Writes None w before after r = (r ≡ Ok (length w)) × (length w ≤ length before) × (after ≡ w ++ drop (length w) before)

-- The answer of decoding into a work buffer: refused exactly if it is too short for the bytes.
abbrev pub Decodes : (bytes before after : List ℕ) → Result ℕ Refusal → Type 0
Decodes bytes before after (Ok n) = (n ≡ length bytes) × (n ≤ length before) × (after ≡ bytes ++ drop n before)
Decodes bytes before after (Err e) = (e ≡ ShortWork) × (length before < length bytes) × (after ≡ before)

-- A line written from its parts.
abbrev pub WritesLine : Parts → (before after : List ℕ) → Result ℕ Refusal → Type 0
WritesLine p before after r =
    Writes (room_refusal (length_refusal (header_refusal p.slot p.kind p.serial) (length p.siv) (length p.text)) (length (sealed_line p)) (length before)) (sealed_line p) before after r
