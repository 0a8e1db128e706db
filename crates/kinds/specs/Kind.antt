-- What the writer of a kind's items answers.
use Rattle.std.specs.Prelude.{◌≡◌, ℕ, ◌<◌, ◌≤◌, Bool, true, false, ◌⊎◌, List, ◌++◌, length, drop, Ok, Err, Result}
use Rattle.refusal.specs.declared.Refusal.{Refusal}
use Rattle.refusal.specs.declared.Refusal.TheVariants.{UnlawfulItem, ShortOutput}

-- Writing an item, lawful or not, with this line: an unlawful one is refused, then a buffer shorter than the line.
-- Else the line stands at the front of the buffer and its length is answered. The bytes past it stay, and all of them on a refusal.
abbrev pub Writes : Bool → (line before after : List ℕ) → Result ℕ Refusal → Type 0
Writes lawful line before after (Ok n) = (lawful ≡ true) × (n ≡ length line) × (n ≤ length before) × (after ≡ line ++ drop n before)
Writes lawful line before after (Err e) = (((lawful ≡ false) × (e ≡ UnlawfulItem 0)) ⊎ ((lawful ≡ true) × (length before < length line) × (e ≡ ShortOutput))) × (after ≡ before)
