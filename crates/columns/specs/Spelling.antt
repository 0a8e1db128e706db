-- Texts that spell bytes.
use Rattle.std.specs.Prelude.{◌≡◌, ℕ, ◌⊎◌, List, [], ◌∷◌}
use Rattle.std.specs.List.{AllByRecursion}
use Rattle.sealed.specs.Hex.{Byte, hex_of}

-- in hexadecimal
abbrev pub Spells : (text bytes : List ℕ) → Type 0
Spells text bytes = AllByRecursion Byte bytes × (text ≡ hex_of bytes)

-- so too, or no bytes by "-"
abbrev pub SpellsField : (text bytes : List ℕ) → Type 0
SpellsField text bytes = ((text ≡ 45 ∷ []) × (bytes ≡ [])) ⊎ Spells text bytes
