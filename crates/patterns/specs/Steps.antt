-- What the reader of one number answers.
use Rattle.std.specs.Prelude.{◌≡◌, ℕ, true, List, ◌∷◌, ◌++◌, ℤ, Some, None, Option, slice_index}
use Rattle.shape.specs.declared.value.Leading.{Leading}
use Rattle.shape.specs.Decimal.{digits, LongestNumber}
use Rattle.shape.specs.Form.{Digit}
use Rattle.patterns.specs.declared.Range.{Range}
use Rattle.patterns.specs.Pattern.{within}

-- The longest number at the front of l, in the first of these ranges; nothing where l does not begin
-- with a number in that range that no digit follows.
abbrev pub NextValue : List Range → List ℕ → Option (Leading ℤ) → Type 0
NextValue rs l (Some x) = LongestNumber l x.value x.len × ((r : Range) × (rest : List Range) × (rs ≡ r ∷ rest) × (within r x.value ≡ true))
NextValue rs l None = (r : Range) (rest : List Range) (v : ℤ) (k : List ℕ) → rs ≡ r ∷ rest → within r v ≡ true → l ≡ digits v ++ k → (Digit (slice_index k 0) → ⊥) → ⊥
