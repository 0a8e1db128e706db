-- A list that makes a sheet is refused by no measure.
use Rattle.std.proofs.Common.{◌≡◌, ℕ, Bool, true, List, [], ◌∷◌, Err, sym, ◌∙◌, ⊎_elim, arith}
use Rattle.std.proofs.ByRecursion.{All-get_or}
use Rattle.std.proofs.lemmas.Bool.{true≢false}
use Rattle.refusal.specs.declared.Refusal.{Refusal}
use Rattle.kinds.specs.Text.{Sheet, Measures, AllLawful, FirstUnlawful}

module _ {X : Type 0} (lawful : X → Bool) (line : X → List ℕ) where
  none_unlawful : (xs : List X) (i : ℕ) → AllLawful lawful xs → FirstUnlawful lawful xs i → ⊥
  none_unlawful [] i all u = omega (arith, u.within)
  none_unlawful (x ∷ xs) i all u = true≢false (sym (All-get_or (λ y. lawful y ≡ true) (x ∷ xs) i x u.within all) ∙ u.here x)

  pub sheet_measured : (xs : List X) (why : Refusal) → Sheet lawful line xs → Measures lawful line xs (Err why) → ⊥
  sheet_measured xs why sheet =
      ⊎_elim (λ u. none_unlawful xs u.0 sheet.all_lawful u.1)
      (λ big. ⊎_elim (λ many. omega (arith, many, sheet.few)) (λ long. omega (arith, long, sheet.short)) big.1)
