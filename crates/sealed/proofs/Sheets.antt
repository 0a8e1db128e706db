-- A sheet was read from its line, and a SIV has the bytes that it holds.
use Rattle.std.proofs.Common.{◌≡◌, ℕ, ◌-◌, List, length, take, replicate, sym, ap, refl, ◌∙◌}
use Rattle.std.proofs.lemmas.List.{take_at}
use Rattle.sealed.specs.declared.unchecked.Unchecked.{Unchecked}
use Rattle.sealed.specs.declared.unchecked.Siv.{Siv}
use Rattle.sealed.specs.Limits.{longest_siv}
use Rattle.sealed.specs.Line.{Lawful}
use Rattle.sealed.specs.Opening.{HoldsSiv}
use Rattle.sealed.specs.Sheet.{ReadFrom, line_of, parts_of}
use Rattle.sealed.proofs.Hexes.{bytes_small}

pub sheet_lawful : (u : Unchecked) → Lawful (parts_of u)
sheet_lawful u = record { head = u.numbers; siv_long = u.siv_long; siv_bytes = bytes_small u.siv.now; text_long = u.text_long; text_bytes = bytes_small u.text.now }

pub sheet_read : (u : Unchecked) → ReadFrom (line_of u) u
sheet_read u = record { lawful = sheet_lawful u; line = refl; head = u.head }

pub siv_held : (siv : List ℕ) (s : Siv) → HoldsSiv siv s → take s.len s.bytes ≡ siv
siv_held siv s h = ap (take s.len) h.1 ∙ take_at siv (replicate (longest_siv - length siv) 0) s.len (sym h.0)
