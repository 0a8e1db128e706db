-- Lists of lawful items of any kind: what they seal to tells slot, serial and list.
use Rattle.std.proofs.Common.{◌≡◌, ℕ, ◌<◌, ◌≤◌, Bool, true, List, length, Some, Option, sym, ◌∙◌, arith}
use Rattle.std.specs.List.{flat_map, AllByRecursion}
use Rattle.hash.specs.declared.Strength.{Strength}
use Rattle.stream.specs.Stream.{StreamOf}
use Rattle.shape.specs.Form.{WellShaped}
use Rattle.kinds.proofs.Sheets.{same_text}
use Rattle.sealed.specs.Line.{LawfulHeader}
use Rattle.sealed.proofs.Pieces.{one_reading}
use Rattle.book.specs.Book.{slot_count, serial_end}
use Rattle.sheet.specs.Sheet.{sheet_line}
use Rattle.sheet.specs.Sealing.{OneList}
use Rattle.sheet.proofs.Shapes.{text_bytes}
use Rattle.sheet.proofs.Lines as lines

module _ {X : Type 0} (f : StreamOf) (bytes : (seed nonce : List ℕ) (place : ℕ) → f.byte seed nonce place < 256) (s : Strength)
    (lawful : X → Bool) (line : X → List ℕ) (number : ℕ) (reading : List ℕ → Option X)
    (numbered : (1 ≤ number) × (number ≤ 9))
    (shaped : (x : X) → lawful x ≡ true → WellShaped (line x))
    (found : (x : X) → lawful x ≡ true → reading (line x) ≡ Some x)
    (sound : (l : List ℕ) (x : X) → reading l ≡ Some x → (lawful x ≡ true) × (line x ≡ l)) where
  abbrev pub Ready : List ℕ → Type 0
  Ready = lines.Fits

  pub ready : (xs : List X) → AllByRecursion (λ x. lawful x ≡ true) xs → length (flat_map line xs) ≤ 16384 → Ready (flat_map line xs)
  ready xs a h = (h, text_bytes lawful line shaped xs a)

  pub head : (a m : ℕ) → a < slot_count → 0 < m → m < serial_end → LawfulHeader a number m
  head a m ha hm hn =
      record { slot_last = omega arith; kind_first = numbered.0; kind_last = numbered.1; serial_first = omega arith; serial_last = omega arith }

  pub apart : (a t m n : ℕ) (k j x y : List ℕ) → a < slot_count → t < slot_count → 0 < m → m < serial_end → 0 < n → n < serial_end → Ready x → Ready y → sheet_line f s a number m k x ≡ sheet_line f s t number n j y → (a ≡ t) × (m ≡ n)
  apart a t m n k j x y ha ht hm hm' hn hn' rx ry e =
      lines.apart f bytes s one_reading number a t m n k j x y (head a m ha hm hm') (head t n ht hn hn') rx ry e

  pub one_list : (a m : ℕ) (k : List ℕ) (xs ys : List X) → a < slot_count → 0 < m → m < serial_end → AllByRecursion (λ x. lawful x ≡ true) xs → AllByRecursion (λ x. lawful x ≡ true) ys → Ready (flat_map line xs) → Ready (flat_map line ys) → sheet_line f s a number m k (flat_map line xs) ≡ sheet_line f s a number m k (flat_map line ys) → xs ≡ ys
  one_list a m k xs ys ha hm hm' lx ly rx ry e =
      same_text reading lawful line shaped found sound xs ys lx ly
      (lines.same_text f bytes s one_reading a number m k (flat_map line xs) (flat_map line ys) (head a m ha hm hm') rx ry e)

  pub one_list_is : OneList (sheet_line f s) lawful line number
  one_list_is slot serial key l xs ys within p q =
      one_list slot serial key xs ys within p.serial_first p.serial_last p.are_lawful q.are_lawful
      (ready xs p.are_lawful p.short) (ready ys q.are_lawful q.short)
      (sym p.line_is ∙ q.line_is)
