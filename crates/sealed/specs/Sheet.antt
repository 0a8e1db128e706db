-- An unchecked sheet by its meaning, and what its reader answers.
use Rattle.std.specs.Prelude.{◌≡◌, ℕ, List, [], ◌∷◌, ◌++◌, take, Ok, Err, Result}
use Rattle.refusal.specs.declared.Refusal.{Refusal}
use Rattle.refusal.specs.declared.Refusal.TheVariants.{NoSealedLine}
use Rattle.shape.specs.Column.{Column}
use Rattle.shape.specs.Outcome.{Read, Fault}
use Rattle.sealed.specs.declared.unchecked.Unchecked.{Unchecked}
use Rattle.sealed.specs.declared.label.Label.{Label}
use Rattle.sealed.specs.Frame.{Whole, Labelled}
use Rattle.sealed.specs.Hex.{bytes_of}
use Rattle.sealed.specs.Line.{Parts, Lawful, parts_in, SealedLine, header_of, sealed_line}

-- what the line says that a sheet was read from
abbrev pub parts_of : Unchecked → Parts
parts_of u = parts_in u.label.slot u.label.kind u.label.serial (bytes_of u.siv.now) (bytes_of u.text.now)

-- that line
abbrev pub line_of : Unchecked → List ℕ
line_of u = sealed_line (parts_of u)

-- The sheet u was read from the line l.
pub record ReadFrom (l : List ℕ) (u : Unchecked) : Type 0 where
  pub lawful : Lawful (parts_of u)
  pub line : l ≡ sealed_line (parts_of u)
  pub head : u.header.now ≡ header_of u.label.slot u.label.kind u.label.serial

-- Reading: the sheet with the parts of the line, which has no others, or the column of the fault.
abbrev pub ReadsSealed : List ℕ → Result Unchecked Refusal → Type 0
ReadsSealed l (Ok u) = ReadFrom l u
ReadsSealed l (Err e) = (SealedLine l → ⊥) × ((c : ℕ) × Column SealedLine l c × (e ≡ NoSealedLine c))

-- the front of a line up to the digits of its serial, which end at `end`
abbrev pub ReadsLabel : (s : List ℕ) (end : ℕ) → Result Label ℕ → Type 0
ReadsLabel s end (Ok l) = Labelled s end l.slot l.kind l.serial
ReadsLabel s end (Err n) = Fault Whole s n

-- a line without its line end, which is at `end`
abbrev pub ReadsFrame : (s : List ℕ) (end : ℕ) → Result Unchecked ℕ → Type 0
ReadsFrame s end (Ok u) = Read Whole s end × ReadFrom (take end s ++ 10 ∷ []) u
ReadsFrame s end (Err n) = Fault Whole s n
