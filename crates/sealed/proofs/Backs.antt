-- What is written reads back.
use Rattle.std.proofs.Common.{◌≡◌, ℕ, ◌-◌, ◌<◌, ◌≤◌, List, ◌++◌, length, get_or, take, drop, Some, None, Ok, Err, Option, Result, sym, refl, arith}
use Rattle.std.specs.List.{AllByRecursion}
use Rattle.std.proofs.lemmas.List.{take_at}
use Rattle.std.proofs.ByRecursion.{All-from_get_or}
use Rattle.refusal.specs.declared.Refusal.{Refusal}
use Rattle.sealed.specs.declared.unchecked.Unchecked.{Unchecked}
use Rattle.sealed.specs.Hex.{Byte}
use Rattle.sealed.specs.Law.{ReadsBack}
use Rattle.sealed.specs.Limits.{last_serial}
use Rattle.sealed.specs.Line.{Parts, Lawful, sealed_line}
use Rattle.sealed.specs.Sheet.{ReadFrom, ReadsSealed, parts_of}
use Rattle.sealed.specs.Writes.{Writes, WritesLine, room_refusal, length_refusal, header_refusal}
use Rattle.sealed.proofs.Pieces.{one_reading}
use Rattle.sealed.proofs.Refusals.{header_lawful, lengths_lawful, passed}

written_ok : (q : Option Refusal) (w before after : List ℕ) (n : ℕ) → Writes q w before after (Ok n) → (None ≡ q) × (n ≡ length w) × (after ≡ w ++ drop (length w) before)
written_ok (Some e) w before after n h = absurd (let f = h.0 in let z : ◌≡◌ {A = ℕ} 0 1 = cc in omega arith)
written_ok None w before after n h = let f = h.0 in let e : n ≡ length w = cc in (refl, e, h.2)

roomy : (q : Option Refusal) (needed room : ℕ) → None ≡ room_refusal q needed room → None ≡ q
roomy (Some e) needed room h = h
roomy None needed room h = refl

-- what a writer took is lawful
pub written_lawful : (p : Parts) (before after : List ℕ) (n : ℕ) → p.serial ≤ last_serial → AllByRecursion Byte p.siv → AllByRecursion Byte p.text → WritesLine p before after (Ok n) → Lawful p
written_lawful p before after n l a b h =
    let q = header_refusal p.slot p.kind p.serial in
    let all = roomy (length_refusal q (length p.siv) (length p.text)) (length (sealed_line p)) (length before) (written_ok _ (sealed_line p) before after n h).0 in
    let long = lengths_lawful q (length p.siv) (length p.text) all in
    record { head = header_lawful p.slot p.kind p.serial (passed q (length p.siv) (length p.text) all) l; siv_long = long.0; siv_bytes = a; text_long = long.1; text_bytes = b }

module _ (p : Parts) (before after : List ℕ) (n : ℕ) (l : p.serial ≤ last_serial) (a : AllByRecursion Byte p.siv) (b : AllByRecursion Byte p.text) (h : WritesLine p before after (Ok n)) where
  lawful : Lawful p
  lawful = written_lawful p before after n l a b h

  front : take (n - 0) after ≡ sealed_line p
  front =
      let w = written_ok _ (sealed_line p) before after n h in
      let z : n - 0 ≡ n = omega arith in
      rw (z, w.2) (take_at (sealed_line p) (drop (length (sealed_line p)) before) n (sym w.1))

  pub reads_back : (r : Result Unchecked Refusal) → ReadsSealed (take (n - 0) after) r → ReadsBack p (length before) r
  reads_back (Ok u) f =
      let g : ReadFrom (sealed_line p) u = rw front at f in
      (lawful, one_reading (parts_of u) p g.lawful lawful (sym g.line), g)
  reads_back (Err e) f = absurd (f.0 (p, lawful, front))

pub all_bytes : (xs : List ℕ) → ((i : ℕ) → get_or xs i 0 < 256) → AllByRecursion Byte xs
all_bytes xs f = All-from_get_or Byte xs 0 (λ i l. f i)
