-- A line that was given to the box, and what was printed of the answer.
use Rattle.std.specs.Prelude.{◌≡◌, ℕ, Bool, List, [], ◌∷◌, length, take, is_ok, Ok, Err, Option, Result}
use Rattle.refusal.specs.declared.Refusal.{Refusal}
use Rattle.hash.specs.declared.Strength.{Strength}
use Rattle.stream.specs.Stream.{StreamOf}
use Rattle.sealed.specs.Line.{Parts, Lawful, sealed_line}
use Rattle.book.specs.declared.Slot.{Slot}
use Rattle.book.specs.Book.{Call, opening, kind_of, most_items, most_bytes}
use Rattle.book.specs.Law.{OpenLaw}
use Rattle.book.specs.Stands.{Stands, Noted}
use Rattle.sheet.specs.Sheet.{sheet_line}
use Rattle.keybox.specs.Opening.{LineAnswered, SlotsAfter}
use Rattle.phrases.specs.Printed.{refused_line, opened_lines}

-- what is printed of an answer of the box, whose tray then holds these items
abbrev pub printed : {X : Type 0} → (X → List ℕ) → List X → Result ℕ Refusal → List ℕ
printed line after (Ok n) = opened_lines line (take n after)
printed line after (Err why) = refused_line why

-- A line was given to a box with buffers of full size, as a kind, and p was printed: there are an answer and the places
-- of the tray that the contract of `open_line` allows.
pub record Given {X : Type 0} (f : StreamOf) (s : Strength) (lawful : X → Bool) (line : X → List ℕ) (number : ℕ) (reading : List ℕ → Option X) (slots next : List Slot) (l p : List ℕ) : Type 0 where
  pub before : List X
  pub after : List X
  pub answer : Result ℕ Refusal
  pub full : length before ≡ most_items
  pub answered : LineAnswered f s slots number most_bytes reading l before after answer
  pub moved : SlotsAfter l slots next (is_ok answer)
  pub noted : Noted (sheet_line f s) slots next (opening l (kind_of number reading) most_bytes (length before) ∷ [])
  pub law : (h : List Call) → Stands (sheet_line f s) slots h → OpenLaw (sheet_line f s) lawful line number h l most_bytes before after answer
  pub print : p ≡ printed line after answer

-- a sealed line that names a kind
abbrev pub Names : (kind : ℕ) (l : List ℕ) → Type 0
Names kind l = (p : Parts) × Lawful p × (l ≡ sealed_line p) × (p.kind ≡ kind)
