-- The limits of the sealed line, each of them here and nowhere else.
use Rattle.std.specs.Prelude.{ℕ, Bool, ◌||◌, ◌==◌, nat_le}

-- slots are numbered from 0
abbrev pub last_slot : ℕ
last_slot = 7

abbrev pub first_kind : ℕ
first_kind = 1

abbrev pub last_kind : ℕ
last_kind = 9

abbrev pub first_serial : ℕ
first_serial = 1

-- the largest number of four bytes
abbrev pub last_serial : ℕ
last_serial = 4294967295

-- how many bytes a SIV may have: one length for each strength of the cipher
abbrev pub siv_length : ℕ → Bool
siv_length n = n == 8 || (n == 16 || n == 32)

abbrev pub longest_siv : ℕ
longest_siv = 32

-- bytes of a text
abbrev pub longest_text : ℕ
longest_text = 16384

abbrev pub text_length : ℕ → Bool
text_length n = nat_le n longest_text

-- bytes of a header, and of a line with its line end: proved to be the most that one has
abbrev pub longest_header : ℕ
longest_header = 46

abbrev pub longest_line : ℕ
longest_line = 32894
