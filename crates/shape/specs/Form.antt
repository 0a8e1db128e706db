-- Forms, how they are written, and which of them are well shaped.
use Rattle.std.specs.Prelude.{◌≡◌, ℕ, ◌-◌, ◌<◌, ◌≤◌, ◌⊎◌, List, [], ◌∷◌, ◌++◌, length, ◌≢◌, slice_index}
use Rattle.std.specs.List.{AllByRecursion}
use Rattle.shape.specs.Limits.{most_letters, most_digits, deepest}

-- A form is a word and its arguments; an argument is a number, by its text, or again a form.
mutual
  pub data Form : Type 0 where
    form : (word : List ℕ) → Args → Form

  pub data Args : Type 0 where
    none : Args
    number : (text : List ℕ) → Args → Args
    inner : Form → Args → Args

-- "(", the word, the arguments with a space before each, ")".
-- `closed` writes the arguments with the bracket that closes their form.
abbrev mutual
  pub written : Form → List ℕ
  written (form word args) = 40 ∷ (word ++ closed args)

  pub closed : Args → List ℕ
  closed none = 41 ∷ []
  closed (number text args) = 32 ∷ (text ++ closed args)
  closed (inner f args) = 32 ∷ (written f ++ closed args)

abbrev pub Letter : ℕ → Type 0
Letter b = (97 ≤ b) × (b ≤ 122)

abbrev pub Digit : ℕ → Type 0
Digit b = (48 ≤ b) × (b ≤ 57)

-- small letters, at least one
abbrev pub Word : List ℕ → Type 0
Word w = (0 < length w) × (length w ≤ most_letters) × AllByRecursion Letter w

-- digits, at least one, of which a leading zero is the only one
abbrev pub Unsigned : List ℕ → Type 0
Unsigned t = (0 < length t) × (length t ≤ most_digits) × AllByRecursion Digit t × (slice_index t 0 ≡ 48 → length t ≡ 1)

-- such digits, or "-" and such digits that do not begin with a zero
abbrev pub Number : List ℕ → Type 0
Number t = Unsigned t ⊎ ((u : List ℕ) × Unsigned u × (slice_index u 0 ≢ 48) × (t ≡ 45 ∷ u))

-- at most `depth` forms deep, this one counted
abbrev mutual
  pub Shaped : ℕ → Form → Type 0
  Shaped depth (form word args) = (0 < depth) × Word word × ShapedArgs (depth - 1) args

  pub ShapedArgs : ℕ → Args → Type 0
  ShapedArgs depth none = Unit {0}
  ShapedArgs depth (number text args) = Number text × ShapedArgs depth args
  ShapedArgs depth (inner f args) = Shaped depth f × ShapedArgs depth args

-- a line: a shaped form and a line end
abbrev pub WellShaped : List ℕ → Type 0
WellShaped l = (f : Form) × Shaped deepest f × (l ≡ written f ++ 10 ∷ [])

-- A line is the writing of one form only.
abbrev pub Unique : Type 0
Unique = (f g : Form) → Shaped deepest f → Shaped deepest g → written f ++ 10 ∷ [] ≡ written g ++ 10 ∷ [] → f ≡ g

-- the writings that the reader of a form and that of its arguments look for
abbrev pub Forms : ℕ → List ℕ → Type 0
Forms depth w = (f : Form) × Shaped depth f × (w ≡ written f)

abbrev pub Tails : ℕ → List ℕ → Type 0
Tails depth w = (a : Args) × ShapedArgs depth a × (w ≡ closed a)
