-- A well-shaped line is a form at most `deepest` deep and a line end: what its reader answers.
use Rattle.std.proofs.Common.{◌≡◌, ℕ, ◌+◌, ◌<◌, ◌≤◌, List, [], ◌∷◌, ◌++◌, length, get_or, Ok, Err, Result, false, sym, refl, ap, ◌∙◌}
use Rattle.std.specs.Result.{is_ok}
use Rattle.std.proofs.lemmas.Bool.{false≢true}
use Rattle.shape.specs.Column.{Column, OneColumn, Verdict}
use Rattle.shape.specs.Form.{WellShaped, Forms, Unique}
use Rattle.shape.specs.Limits.{deepest}
use Rattle.shape.specs.Outcome.{Read, Fault, Outcome}
use Rattle.shape.proofs.Agree.{same_form, unique}
use Rattle.shape.proofs.Columns.{column_like, one_column}
use Rattle.shape.proofs.Lines.{Apart, Line, line_fault, line_other, line_long, line_ok}

pub forms_apart : (d : ℕ) → Apart (Forms d)
forms_apart d w w' k k' g g' e = (same_form g.0 g'.0 d d k k' g.1 g'.1 (ap (λ z. z ++ k) (sym g.2) ∙ e ∙ ap (λ z. z ++ k') g'.2)).1

pub line_shaped : (l : List ℕ) → Line (Forms deepest) l → WellShaped l
line_shaped l p = (p.1.0, p.1.1, p.2 ∙ ap (λ z. z ++ 10 ∷ []) p.1.2)

pub shaped_line : (l : List ℕ) → WellShaped l → Line (Forms deepest) l
shaped_line l p = (_, (p.0, p.1, refl), p.2)

pub one_reading : Unique × OneColumn WellShaped
one_reading = (unique, one_column WellShaped)

module _ (l : List ℕ) (n : ℕ) where
  shaped : (c : ℕ) → (Line (Forms deepest) l → ⊥) × Column (Line (Forms deepest)) l c → (WellShaped l → ⊥) × Column WellShaped l c
  shaped c v = column_like (Line (Forms deepest)) WellShaped line_shaped shaped_line l c v

  pub verdict_fault : Fault (Forms deepest) l n → (WellShaped l → ⊥) × Column WellShaped l (n + 1)
  verdict_fault o = shaped (n + 1) (line_fault (Forms deepest) (forms_apart deepest) l n o)

  module _ (o : Read (Forms deepest) l n) where
    pub verdict_other : (n < length l → get_or l n 0 ≡ 10 → ⊥) → (WellShaped l → ⊥) × Column WellShaped l (n + 1)
    verdict_other other = shaped (n + 1) (line_other (Forms deepest) (forms_apart deepest) l n o other)

    module _ (within : n < length l) (line_end : get_or l n 0 ≡ 10) where
      pub verdict_long : n + 1 < length l → (WellShaped l → ⊥) × Column WellShaped l (n + 2)
      verdict_long more = shaped (n + 2) (line_long (Forms deepest) (forms_apart deepest) l n o within line_end more)

      pub verdict_ok : length l ≤ n + 1 → WellShaped l
      verdict_ok few = line_shaped l (line_ok (Forms deepest) (forms_apart deepest) l n o within line_end few)

-- the column of a fault in the form
abbrev pub column_of : Result ℕ ℕ → Result (Unit {0}) ℕ
column_of (Ok n) = Ok tt
column_of (Err n) = Err (n + 1)

pub verdict_form : (l : List ℕ) (r : Result ℕ ℕ) → Outcome (Forms deepest) l r → false ≡ is_ok r → Verdict WellShaped l (column_of r)
verdict_form l (Ok n) o e = absurd (false≢true e)
verdict_form l (Err n) o e = verdict_fault l n o
