-- Drawing serials from a roll, and what a run of draws gives.
use Rattle.std.specs.Prelude.{◌≡◌, ℕ, ◌+◌, ◌<◌, List, [], ◌∷◌, length, Ok, Err, Result, slice_index}
use Rattle.refusal.specs.declared.Refusal.{Refusal}
use Rattle.refusal.specs.declared.Refusal.TheVariants.{RollUsedUp}

-- the last serial that a roll can give: four bytes hold it (a sealed line can hold as large a one; neither crate stands on the other)
abbrev pub last_serial : ℕ
last_serial = 4294967295

-- One draw from a roll whose last serial was `was`: the serial one above it, which becomes the last.
abbrev pub Draw : (was serial is : ℕ) → Type 0
Draw was serial is = (was < last_serial) × (serial ≡ was + 1) × (is ≡ serial)

-- The answer of a draw: a serial, or the refusal of a roll that is used up and stays as it was.
abbrev pub Drawn : (was is : ℕ) → Result ℕ Refusal → Type 0
Drawn was is (Ok serial) = Draw was serial is
Drawn was is (Err e) = (was ≡ last_serial) × (is ≡ was) × (e ≡ RollUsedUp)

-- draw after draw from one roll, the serials in their order
abbrev pub Run : (was : ℕ) (serials : List ℕ) (is : ℕ) → Type 0
Run was [] is = is ≡ was
Run was (s ∷ ss) is = (mid : ℕ) × Draw was s mid × Run mid ss is

-- the serials after `was` rise by one, and no two of them are the same
abbrev pub Rising : ℕ → List ℕ → Type 0
Rising was serials = (k : ℕ) → k < length serials → slice_index serials k ≡ was + 1 + k

abbrev pub Distinct : List ℕ → Type 0
Distinct serials = (j k : ℕ) → j < length serials → k < length serials → slice_index serials j ≡ slice_index serials k → j ≡ k

-- The law of a roll, over any run of draws.
abbrev pub NeverRepeats : Type 0
NeverRepeats = (was is : ℕ) (serials : List ℕ) → Run was serials is → Rising was serials × Distinct serials × (is ≡ was + length serials)
