-- The limits of kinds and of sheets, each of them here and nowhere else.
use Rattle.std.specs.Prelude.{ℕ}

-- the largest number of a kind; the smallest is 1
abbrev pub most_kinds : ℕ
most_kinds = 9

-- bytes of a line, whatever its kind, its line end counted
abbrev pub longest_line : ℕ
longest_line = 255

-- items of a sheet
abbrev pub most_items : ℕ
most_items = 1024

-- bytes of a sheet's text
abbrev pub most_bytes : ℕ
most_bytes = 16384
