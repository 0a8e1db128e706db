-- Kind 2, settings: how the table is to work.
use Rattle.std.specs.Prelude.{ℕ, Bool, cond, List, [], ◌∷◌, ℤ, pos, negsuc, Some, None, codes, Option, unsigned_abs}
use Rattle.std.specs.Str.{bytes_eq}
use Rattle.patterns.specs.declared.Range.{Range}
use Rattle.patterns.specs.Pattern.{spelt, in_ranges}
use Rattle.patterns.specs.Finding.{word, numbers, having}
use Rattle.items.specs.declared.setting.SettingItem.{SettingItem}
use Rattle.items.specs.declared.setting.SettingItem.TheVariants.{Speed, Press, Tool}

-- the line, with a "#" for each number
abbrev pub setting_pattern : SettingItem → List ℕ
setting_pattern (Speed value) = codes "(speed #)\n"
setting_pattern (Press value) = codes "(press #)\n"
setting_pattern (Tool number offset) = codes "(tool # (offset #))\n"

-- the numbers, from left to right
abbrev pub setting_values : SettingItem → List ℤ
setting_values (Speed value) = pos value ∷ []
setting_values (Press value) = pos value ∷ []
setting_values (Tool number offset) = pos number ∷ offset ∷ []

abbrev pub speeds : Range
speeds = record { low = pos 1; high = pos 999 }

abbrev pub pressures : Range
pressures = record { low = pos 0; high = pos 9999 }

abbrev pub tool_numbers : Range
tool_numbers = record { low = pos 1; high = pos 8 }

-- from -999 to 999
abbrev pub offsets : Range
offsets = record { low = negsuc 998; high = pos 999 }

-- the range of each number
abbrev pub setting_ranges : SettingItem → List Range
setting_ranges (Speed value) = speeds ∷ []
setting_ranges (Press value) = pressures ∷ []
setting_ranges (Tool number offset) = tool_numbers ∷ offsets ∷ []

-- an item is lawful if each of its numbers is in its range
abbrev pub setting_lawful : SettingItem → Bool
setting_lawful item = in_ranges (setting_ranges item) (setting_values item)

abbrev pub setting_line : SettingItem → List ℕ
setting_line item = spelt (setting_pattern item) (setting_values item)

-- the item of a word and numbers
abbrev pub lone_of : (ℕ → SettingItem) → List ℤ → Option SettingItem
lone_of item [] = None
lone_of item (v ∷ vs) = Some (item (unsigned_abs v))

abbrev pub tool_of : List ℤ → Option SettingItem
tool_of [] = None
tool_of (n ∷ []) = None
tool_of (n ∷ o ∷ vs) = Some (Tool (unsigned_abs n) o)

abbrev pub setting_named : List ℕ → List ℤ → Option SettingItem
setting_named w vs =
    cond (bytes_eq w (codes "speed")) (lone_of Speed vs)
    (cond (bytes_eq w (codes "press")) (lone_of Press vs)
    (cond (bytes_eq w (codes "tool")) (tool_of vs) None))

-- the lawful item that has a line: the one that its word and numbers name, if it is lawful and has that line
abbrev pub setting_reading : List ℕ → Option SettingItem
setting_reading l = having setting_lawful setting_line l (setting_named (word l) (numbers l))
