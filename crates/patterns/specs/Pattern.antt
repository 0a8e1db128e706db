-- Patterns: a line in which each "#" stands for a number.
use Rattle.std.specs.Prelude.{◌≡◌, ℕ, ◌<◌, ◌≤◌, Bool, true, false, cond, not, ◌&&◌, ◌||◌, List, [], ◌∷◌, ◌++◌, length, drop, ℤ, Some, None, Option, ◌==◌, int_le, nat_le, nat_lt, slice_index, unsigned_abs}
use Rattle.std.specs.List.{AllByRecursion}
use Rattle.shape.specs.Decimal.{digits, InRange}
use Rattle.shape.specs.Limits.{bound}
use Rattle.patterns.specs.declared.Range.{Range}

-- the digits of a value, nothing where there is none
abbrev pub digits_of : Option ℤ → List ℕ
digits_of None = []
digits_of (Some v) = digits v

-- the digits of the first value, nothing where there is none
abbrev pub first_digits : List ℤ → List ℕ
first_digits [] = []
first_digits (v ∷ vs) = digits v

-- The line that a pattern and values make: the digits of the values, in their order, in the places of the "#" (35).
abbrev pub spelt : List ℕ → List ℤ → List ℕ
spelt [] vs = []
spelt (b ∷ p) vs = cond (b == 35) (first_digits vs) (b ∷ []) ++ spelt p (cond (b == 35) (drop 1 vs) vs)

-- a value in its range, and one that lines can hold
abbrev pub within : Range → ℤ → Bool
within r v = int_le r.low v && (int_le v r.high && nat_lt (unsigned_abs v) bound)

-- as many values as ranges, each in its own
abbrev pub in_ranges : List Range → List ℤ → Bool
in_ranges [] [] = true
in_ranges [] (v ∷ vs) = false
in_ranges (r ∷ rs) [] = false
in_ranges (r ∷ rs) (v ∷ vs) = within r v && in_ranges rs vs

-- The values are in their ranges and make this line.
abbrev pub Makes : List ℕ → List Range → List ℕ → List ℤ → Type 0
Makes p rs l vs = (in_ranges rs vs ≡ true) × (spelt p vs ≡ l)

-- a byte that numbers are written with
abbrev pub figure : ℕ → Bool
figure b = b == 45 || (nat_le 48 b && nat_le b 57)

-- A pattern that fits its ranges: one "#" for each, no two side by side, and none of the bytes that numbers are written with.
abbrev pub fitting : List ℕ → List Range → Bool
fitting [] rs = length rs == 0
fitting (b ∷ p) rs = cond (b == 35) (nat_lt 0 (length rs) && not (slice_index p 0 == 35)) (not (figure b)) && fitting p (cond (b == 35) (drop 1 rs) rs)

-- Reading a line by a pattern: the values that make it, nothing exactly where none do.
abbrev pub ReadsPattern : List ℕ → List Range → List ℕ → Option (List ℤ) → Type 0
ReadsPattern p rs l (Some vs) = Makes p rs l vs
ReadsPattern p rs l None = fitting p rs ≡ true → (vs : List ℤ) → Makes p rs l vs → ⊥

-- values that lines can hold
abbrev pub AllInRange : List ℤ → Type 0
AllInRange vs = AllByRecursion InRange vs

-- how long a line is that must fit a room
abbrev pub FitsRoom : List ℕ → ℕ → Option ℕ → Type 0
FitsRoom l room (Some n) = (n ≡ length l) × (n ≤ room)
FitsRoom l room None = room < length l
