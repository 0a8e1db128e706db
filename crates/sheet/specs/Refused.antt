-- A refused sealing.
use Rattle.std.specs.Prelude.{ℕ, Ok, Err, Result}
use Rattle.refusal.specs.declared.Refusal.{Refusal}
use Rattle.sealed.specs.declared.label.Label.{Label}
use Rattle.sheet.specs.declared.sealing.Unsealed.{Unsealed}

-- an answer by its refusal, without the ticket that is handed back
abbrev pub refusal_of : Result ℕ Unsealed → Result ℕ Refusal
refusal_of (Ok n) = Ok n
refusal_of (Err u) = Err u.why

-- the same of an answer that tells what the line tells, where the line has n bytes
abbrev pub read_back_of : (n : ℕ) → Result Label Unsealed → Result ℕ Refusal
read_back_of n (Ok label) = Ok n
read_back_of n (Err u) = Err u.why
