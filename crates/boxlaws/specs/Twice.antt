-- What a box answers to a line that it is given twice.
use Rattle.std.specs.Prelude.{ℕ, List, is_ok, Option, Result}
use Rattle.refusal.specs.declared.Refusal.{Refusal}
use Rattle.hash.specs.declared.Strength.{Strength}
use Rattle.stream.specs.Stream.{StreamOf}
use Rattle.book.specs.declared.Slot.{Slot}
use Rattle.keybox.specs.Opening.{LineAnswered, SlotsAfter}

-- The answer by the slots as they were, and then the answer by the slots and places that the first one left.
abbrev pub AnsweredTwice : {X : Type 0} → StreamOf → Strength → (slots : List Slot) (number work : ℕ) → (List ℕ → Option X) → (l : List ℕ) (before after : List X) (first second : Result ℕ Refusal) → Type 0
AnsweredTwice {X} f s slots number work reading l before after first second =
    (next : List Slot) × (mid : List X)
    × LineAnswered f s slots number work reading l before mid first × SlotsAfter l slots next (is_ok first)
    × LineAnswered f s next number work reading l mid after second
