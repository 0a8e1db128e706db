-- What is printed of a sheet.
use Rattle.std.proofs.Common.{◌≡◌, ℕ, ◌-◌, ◌≤◌, Bool, cond, List, ◌++◌, length, take, drop, is_ok, IfOk, Ok, Err, Result, sym, ap, ◌∙◌, ⊎_elim, append_assoc, arith}
use Rattle.std.proofs.lemmas.List.{take_at}
use Rattle.refusal.specs.declared.Refusal.{Refusal}
use Rattle.kinds.specs.Text.{Sheet, WritesText, text_of}
use Rattle.sheet.proofs.Measured.{sheet_measured}

module _ {X : Type 0} (lawful : X → Bool) (line : X → List ℕ) (xs : List X) (sheet : Sheet lawful line xs) (before after : List ℕ) where
  -- its text is written where there is room
  pub never_refused : (why : Refusal) → 16384 ≤ length before → WritesText lawful line xs before after (Err why) → ⊥
  never_refused why room w = ⊎_elim (sheet_measured lawful line xs why sheet) (λ short. omega (arith, short.1, sheet.short)) w.0

  -- and stands at the front
  pub text_there : (n : ℕ) → WritesText lawful line xs before after (Ok n) → take (n - 0) after ≡ text_of line xs
  text_there n w =
      let m : n - 0 ≡ n = omega arith in
      ap (λ k. take k after) m ∙ ap (take n) w.3 ∙ take_at (text_of line xs) (drop n before) n (sym w.1)

-- one text after another
pub two_pushes : {U E : Type 0} (r : Result U E) (o mid last a b : List ℕ) → mid ≡ o ++ a → last ≡ cond (is_ok r) (mid ++ b) mid → IfOk r (λ _. last ≡ o ++ (a ++ b))
two_pushes (Ok u) o mid last a b e f = f ∙ ap (λ x. x ++ b) e ∙ append_assoc o a b
two_pushes (Err x) o mid last a b e f = tt
