-- What a reader answers of a line, by the column of its fault.
use Rattle.std.specs.Prelude.{◌≡◌, ℕ, ◌<◌, List}
use Rattle.shape.specs.Column.{Column}

-- 0 for a line of P and no other, else the column of the fault
abbrev pub Answers : (List ℕ → Type 0) → List ℕ → ℕ → Type 0
Answers P l c = (c ≡ 0 → P l) × (0 < c → Column P l c)
