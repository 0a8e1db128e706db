-- What a tray holds, and what loading a text does to it.
use Rattle.std.specs.Prelude.{◌≡◌, ℕ, List, take, Option, Result, MatchResult}
use Rattle.refusal.specs.declared.Refusal.{Refusal}
use Rattle.kinds.specs.Text.{Fills}
use Rattle.kinds.specs.declared.tray.Tray.{Tray}

-- as many of its places, from the first, as it counts
abbrev pub held : {T : Type 0} → Tray T → List T
held t = take t.count t.items.now

-- A loading that answers so counts the items that it read, or leaves the count where it is refused; the places stay those that were lent.
abbrev pub Recounts : {T : Type 0} → (before after : Tray T) → Result ℕ Refusal → Type 0
Recounts before after r = MatchResult r (λ n. after.count ≡ n) (λ _. after.count ≡ before.count) × (after.items.ghost_name ≡ before.items.ghost_name)

-- Loading a text: its items fill the places from the first, and are counted. A refusal leaves places and count as they were.
abbrev pub Loads : {T : Type 0} → (List ℕ → Option T) → List ℕ → (before after : Tray T) → Result ℕ Refusal → Type 0
Loads reading t before after r = Fills reading t before.items.now after.items.now r × Recounts before after r
