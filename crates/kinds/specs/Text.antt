-- The text of a list of items, and what reading a text gives.
use Rattle.std.specs.Prelude.{◌≡◌, ℕ, ◌+◌, ◌-◌, ◌<◌, ◌≤◌, Bool, true, false, cond, ◌⊎◌, List, [], ◌∷◌, ◌++◌, length, take, drop, is_some, Some, None, Ok, Err, Option, Result, ◌==◌, slice_index_or}
use Rattle.std.specs.List.{flat_map, AllByRecursion}
use Rattle.refusal.specs.declared.Refusal.{Refusal}
use Rattle.refusal.specs.declared.Refusal.TheVariants.{SmallTray, ShortOutput, UnlawfulItem, LargeSheet, NoSheet}
use Rattle.shape.specs.Column.{Column}
use Rattle.shape.specs.Form.{WellShaped}
use Rattle.kinds.specs.Limits.{most_items, most_bytes}

-- Cutting a text after each line end; the last piece may lack its own.
abbrev pub onto : ℕ → List (List ℕ) → List (List ℕ)
onto b [] = (b ∷ []) ∷ []
onto b (l ∷ ls) = (b ∷ l) ∷ ls

abbrev pub lines : List ℕ → List (List ℕ)
lines [] = []
lines (b ∷ t) = cond (b == 10) ((b ∷ []) ∷ lines t) (onto b (lines t))

-- The column of a line that no item has: 0 where it is well shaped, else by the column rule.
abbrev pub ColumnOf : List ℕ → ℕ → Type 0
ColumnOf l c = (WellShaped l → c ≡ 0) × ((WellShaped l → ⊥) → Column WellShaped l c)

-- A kind is known here by which items are lawful, by their lines, and by which item has a line.
module _ {X : Type 0} (lawful : X → Bool) where
  abbrev pub AllLawful : List X → Type 0
  AllLawful xs = AllByRecursion (λ x. lawful x ≡ true) xs

  -- the first item that is not lawful, counted from 0
  pub record FirstUnlawful (xs : List X) (i : ℕ) : Type 0 where
    pub within : i < length xs
    pub before : AllLawful (take i xs)
    pub here : (d : X) → lawful (slice_index_or xs i d) ≡ false

-- the lines of the items, one after the other
abbrev pub text_of : {X : Type 0} → (X → List ℕ) → List X → List ℕ
text_of line xs = flat_map line xs

module _ {X : Type 0} (lawful : X → Bool) (line : X → List ℕ) where
  -- a list that makes a sheet
  pub record Sheet (xs : List X) : Type 0 where
    pub all_lawful : AllLawful lawful xs
    pub few : length xs ≤ most_items
    pub short : length (text_of line xs) ≤ most_bytes

  -- Measuring a list: the first unlawful item is refused, then a list too large for a sheet; else the length of its text.
  abbrev pub Measures : List X → Result ℕ Refusal → Type 0
  Measures xs (Ok n) = Sheet xs × (n ≡ length (text_of line xs))
  Measures xs (Err e) = ((i : ℕ) × FirstUnlawful lawful xs i × (e ≡ UnlawfulItem i)) ⊎ (AllLawful lawful xs × ((most_items < length xs) ⊎ (most_bytes < length (text_of line xs))) × (e ≡ LargeSheet))

  -- Writing a list's text: refused as measuring refuses, then a buffer that is too short. The bytes past the text stay,
  -- and all of them on a refusal.
  abbrev pub WritesText : List X → (before after : List ℕ) → Result ℕ Refusal → Type 0
  WritesText xs before after (Ok n) = Sheet xs × (n ≡ length (text_of line xs)) × (n ≤ length before) × (after ≡ text_of line xs ++ drop n before)
  WritesText xs before after (Err e) = (Measures xs (Err e) ⊎ (Sheet xs × (length before < length (text_of line xs)) × (e ≡ ShortOutput))) × (after ≡ before)

  -- lists of lawful items with the same text are the same
  abbrev pub SameText : Type 0
  SameText = (xs ys : List X) → AllLawful lawful xs → AllLawful lawful ys → text_of line xs ≡ text_of line ys → xs ≡ ys

-- one item and those after it, nothing where either is missing
abbrev pub add : {X : Type 0} → Option X → Option (List X) → Option (List X)
add None r = None
add (Some x) None = None
add (Some x) (Some xs) = Some (x ∷ xs)

module _ {X : Type 0} (reading : List ℕ → Option X) where
  -- a line that some lawful item has
  abbrev pub Good : List ℕ → Type 0
  Good l = is_some (reading l) ≡ true

  -- the items whose lines these are, nothing where one is no line of the kind
  abbrev pub items_of : List (List ℕ) → Option (List X)
  items_of [] = Some []
  items_of (l ∷ ls) = add (reading l) (items_of ls)

  -- The list that a text is read as: its lines are those of the items, at most as many as a sheet may have.
  pub record Reads (t : List ℕ) (xs : List X) : Type 0 where
    pub items : items_of (lines t) ≡ Some xs
    pub few : length xs ≤ most_items

  -- The first fault of a text, in its line n, counted from 1, at column c: all lines before it are good, and it is not;
  -- or as many good lines as a sheet may have are followed by another.
  pub record Faulty (t : List ℕ) (n c : ℕ) : Type 0 where
    pub first : 1 ≤ n
    pub within : n ≤ length (lines t)
    pub before : AllByRecursion Good (take (n - 1) (lines t))
    pub here : ((n ≤ most_items) × (Good (slice_index_or (lines t) (n - 1) []) → ⊥) × ColumnOf (slice_index_or (lines t) (n - 1) []) c) ⊎ ((n ≡ most_items + 1) × (c ≡ 0))

  -- Checking a text: how many items it is read as, or its first fault.
  abbrev pub Checks : List ℕ → Result ℕ Refusal → Type 0
  Checks t (Ok n) = (xs : List X) × Reads t xs × (n ≡ length xs)
  Checks t (Err e) = (n : ℕ) × (c : ℕ) × Faulty t n c × (e ≡ NoSheet n c)

  -- Filling places from a text: the items in order, the places past them stay. A text with a fault is refused,
  -- then too few places, and either way no place changes.
  abbrev pub Fills : List ℕ → (before after : List X) → Result ℕ Refusal → Type 0
  Fills t before after (Ok n) = (xs : List X) × Reads t xs × (n ≡ length xs) × (n ≤ length before) × (after ≡ xs ++ drop n before)
  Fills t before after (Err e) = (Checks t (Err e) ⊎ ((xs : List X) × Reads t xs × (length before < length xs) × (e ≡ SmallTray))) × (after ≡ before)

  -- A text has no two faults, and none where it is read as a list.
  abbrev pub OneAnswer : Type 0
  OneAnswer = (t : List ℕ) → ((n c n' c' : ℕ) → Faulty t n c → Faulty t n' c' → (n ≡ n') × (c ≡ c')) × ((n c : ℕ) (xs : List X) → Faulty t n c → Reads t xs → ⊥)

-- A text is read as a list exactly where it is the text of that list, lawful and with no more items than a sheet may have.
abbrev pub ReadsItsText : {X : Type 0} → (X → Bool) → (X → List ℕ) → (List ℕ → Option X) → Type 0
ReadsItsText {X} lawful line reading = (t : List ℕ) (xs : List X) → (Reads reading t xs → AllLawful lawful xs × (length xs ≤ most_items) × (text_of line xs ≡ t)) × (AllLawful lawful xs → length xs ≤ most_items → text_of line xs ≡ t → Reads reading t xs)

-- The line at the front of a text is n bytes long, and the others are those of the rest.
abbrev pub FirstLine : List ℕ → ℕ → Type 0
FirstLine t n = (n ≤ length t) × (0 < length t → (0 < n) × (lines t ≡ take n t ∷ lines (drop n t)))

-- The line l stands in the text from a place on, before the lines of the rest.
pub record NextLine (t : List ℕ) (at : ℕ) (l : List ℕ) : Type 0 where
  pub some : 0 < length l
  pub fits : at + length l ≤ length t
  pub cut : lines (drop at t) ≡ l ∷ lines (drop (at + length l) t)
