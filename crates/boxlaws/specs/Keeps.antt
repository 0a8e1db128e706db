-- What calls leave in the book.
use Rattle.std.specs.Prelude.{◌≡◌, ℕ, ◌<◌, ◌≤◌, true, List, ◌∷◌, Some, ◌≢◌}
use Rattle.refusal.specs.declared.Refusal.{Refusal}
use Rattle.shape.specs.Form.{WellShaped}
use Rattle.sealed.specs.Line.{Parts, Lawful, sealed_line}
use Rattle.kinds.specs.Limits.{most_kinds}
use Rattle.book.specs.Answers.{set_checks, slot_check}
use Rattle.book.specs.Book.{Call, KindOf, Sealing, setting, clearing, asking, opening, good_key, slot_count, key_in, Opened, Fresh}

-- What every kind shows: its number is one of 1 to 9 and its lines are well shaped.
pub record Real (kind : KindOf) : Type 0 where
  pub first : 1 ≤ kind.number
  pub last : kind.number ≤ most_kinds
  pub shaped : (l : List ℕ) → kind.has l ≡ true → WellShaped l

module _ (seal : Sealing) where
  -- The books of two lists of calls have the same for a slot: the same key, and the same serials opened.
  pub record SameFor (s : ℕ) (h g : List Call) : Type 0 where
    pub key : key_in g s ≡ key_in h s
    pub kept : (m : ℕ) → Opened seal h s m → Opened seal g s m
    pub only : (m : ℕ) → Opened seal g s m → Opened seal h s m

  -- one more call leaves the book as it was
  abbrev pub Unheard : List Call → Call → Type 0
  Unheard h c = (s : ℕ) → SameFor s h (c ∷ h)

-- A call that does not name a slot: of an opening, that its line is no sealed line for that slot.
abbrev pub NotFor : ℕ → Call → Type 0
NotFor s (setting t k) = t ≡ s → ⊥
NotFor s (clearing t) = t ≡ s → ⊥
NotFor s (asking t) = t ≡ s → ⊥
NotFor s (opening l q work tray) = Real q × ((p : Parts) → Lawful p → l ≡ sealed_line p → p.slot ≢ s)

-- Calls that name another slot change nothing for this one.
abbrev pub OtherSlotsKeep : Sealing → Type 0
OtherSlotsKeep seal = (h : List Call) (c : Call) (s : ℕ) → NotFor s c → SameFor seal s h (c ∷ h)

-- A setting or a clearing that is refused, and asking, leave the book as it was.
abbrev pub RefusedKeep : Sealing → Type 0
RefusedKeep seal =
    (h : List Call)
    → ((slot : ℕ) (key : List ℕ) (why : Refusal) → set_checks slot key ≡ Some why → Unheard seal h (setting slot key))
    × ((slot : ℕ) (why : Refusal) → slot_check slot ≡ Some why → Unheard seal h (clearing slot))
    × ((slot : ℕ) → Unheard seal h (asking slot))

-- Setting a key makes every serial of its slot good again.
abbrev pub SetAnew : Sealing → Type 0
SetAnew seal = (h : List Call) (slot : ℕ) (key : List ℕ) (m : ℕ) → slot < slot_count → good_key key ≡ true → 0 < m → Fresh seal (setting slot key ∷ h) slot m

-- The laws of the book together.
pub record BookLaws (seal : Sealing) : Type 0 where
  pub others : OtherSlotsKeep seal
  pub refused : RefusedKeep seal
  pub anew : SetAnew seal
