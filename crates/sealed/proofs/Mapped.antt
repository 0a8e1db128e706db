-- What `map_err` was given, by what it gave.
use Rattle.std.proofs.Common.{◌≡◌, Ok, Err, Result, refl}
use Rattle.std.specs.Result.{IsErrAnd, MatchResult}

module _ {A E D : Type 0} (Q : E → D → Type 0) (o : Result A D) where
  pub mapped_ok : (r : Result A E) (x : A) → MatchResult r (λ y. o ≡ Ok y) (λ e. IsErrAnd o (Q e)) → o ≡ Ok x → r ≡ Ok x
  mapped_ok (Ok y) x m e = cc
  mapped_ok (Err y) x m e = absurd (rw e at m)

  pub mapped_err : (r : Result A E) (d : D) → MatchResult r (λ y. o ≡ Ok y) (λ e. IsErrAnd o (Q e)) → o ≡ Err d → (e : E) × (r ≡ Err e) × Q e d
  mapped_err (Ok y) d m e = absurd cc
  mapped_err (Err y) d m e = (y, refl, rw e at m)
