-- What the calls of a roll answer.
use Rattle.std.specs.Prelude.{◌≡◌, ℕ, ◌+◌, ◌≤◌, [], ◌∷◌, Ok, Err, Result}
use Rattle.refusal.specs.declared.Refusal.{Refusal}
use Rattle.refusal.specs.declared.Refusal.TheVariants.{RollUsedUp}
use Rattle.roll.specs.declared.Ticket.{Ticket}
use Rattle.roll.specs.Draws.{last_serial, Run}

-- a drawn ticket by its serial
abbrev pub serial_of : Result Ticket Refusal → Result ℕ Refusal
serial_of (Ok t) = Ok t.serial
serial_of (Err e) = Err e

-- Two draws in a row; refused exactly when the roll has fewer than two serials left.
abbrev pub PairDrawn : (was is : ℕ) → Result (ℕ × ℕ) Refusal → Type 0
PairDrawn was is (Ok p) = Run was (p.0 ∷ (p.1 ∷ [])) is
PairDrawn was is (Err e) = (last_serial ≤ was + 1) × (is ≡ last_serial) × (e ≡ RollUsedUp)
