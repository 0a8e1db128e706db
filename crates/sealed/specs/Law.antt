-- What is written reads back.
use Rattle.std.specs.Prelude.{◌≡◌, ℕ, length, Some, Ok, Err, Result}
use Rattle.refusal.specs.declared.Refusal.{Refusal}
use Rattle.sealed.specs.declared.unchecked.Unchecked.{Unchecked}
use Rattle.sealed.specs.Line.{Parts, Lawful, sealed_line}
use Rattle.sealed.specs.Sheet.{ReadFrom, parts_of}
use Rattle.sealed.specs.Writes.{header_refusal, length_refusal, room_refusal}

-- A line written from p into `room` bytes and read again: the parts are those of p, or the writer refused.
abbrev pub ReadsBack : Parts → (room : ℕ) → Result Unchecked Refusal → Type 0
ReadsBack p room (Ok u) = Lawful p × (parts_of u ≡ p) × ReadFrom (sealed_line p) u
ReadsBack p room (Err e) = room_refusal (length_refusal (header_refusal p.slot p.kind p.serial) (length p.siv) (length p.text)) (length (sealed_line p)) room ≡ Some e
