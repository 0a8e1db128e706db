-- The column of the fault in a line, for any set P of lines.
use Rattle.std.specs.Prelude.{◌≡◌, ℕ, ◌+◌, ◌-◌, ◌≤◌, List, ◌++◌, length, take, Ok, Err, Result}

-- a front part: some line of P begins with p
abbrev pub Front : (List ℕ → Type 0) → List ℕ → Type 0
Front P p = (rest : List ℕ) × P (p ++ rest)

-- The c - 1 bytes before column c are a front part, and no longer part of l is.
-- Columns count from 1; column `length l + 1` says that l only lacks its end.
pub record Column (P : List ℕ → Type 0) (l : List ℕ) (c : ℕ) : Type 0 where
  pub first : 1 ≤ c
  pub last : c ≤ length l + 1
  pub before : Front P (take (c - 1) l)
  pub longest : (n : ℕ) → c ≤ n → n ≤ length l → Front P (take n l) → ⊥

-- no bytes have two such columns
abbrev pub OneColumn : (List ℕ → Type 0) → Type 0
OneColumn P = (l : List ℕ) (c c' : ℕ) → Column P l c → Column P l c' → c ≡ c'

-- The answer of a reader of whole lines: Ok for a line of P and no other, else the column of the fault.
abbrev pub Verdict : {X : Type 0} → (List ℕ → Type 0) → List ℕ → Result X ℕ → Type 0
Verdict P l (Ok _) = P l
Verdict P l (Err c) = (P l → ⊥) × Column P l c
