-- The limits of the line format, each of them here and nowhere else.
use Rattle.std.specs.Prelude.{ℕ, ◌^◌}

-- letters of a word
abbrev pub most_letters : ℕ
most_letters = 8

-- digits of a number, its sign not counted
abbrev pub most_digits : ℕ
most_digits = 6

-- forms one inside the other, the outer one counted
abbrev pub deepest : ℕ
deepest = 4

-- a number without its sign is below this
abbrev pub bound : ℕ
bound = 10 ^ most_digits
