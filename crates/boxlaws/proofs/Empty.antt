-- What a box with no key answers.
use Rattle.std.proofs.Common.{◌≡◌, ℕ, Bool, true, false, cond, not, eqb, List, get_or, is_ok, Some, Err, Option, Result, ap, subst, inl, inr, ⊎_elim}
use Rattle.refusal.specs.declared.Refusal.{Refusal}
use Rattle.refusal.specs.declared.Refusal.TheVariants.{OtherKind, EmptySlot}
use Rattle.hash.specs.declared.Strength.{Strength}
use Rattle.stream.specs.Stream.{StreamOf}
use Rattle.hs1.specs.Checks.{refuse_if, or_else}
use Rattle.book.specs.declared.Slot.{Slot}
use Rattle.book.specs.Keys.{empty}
use Rattle.keybox.specs.Opening.{first_checks, sheet_text, Answered, LineAnswered}
use Rattle.boxlaws.specs.Opens.{NoKeyAnswered}

-- the kind is checked before the slot
by_kind : {X : Type 0} (same : Bool) (text : Option (List ℕ)) (reading : List ℕ → Option X) (before after : List X) (r : Result ℕ Refusal) → Answered (or_else (refuse_if (not same) OtherKind) (Some EmptySlot)) text reading before after r → r ≡ Err (cond same EmptySlot OtherKind)
by_kind true text reading before after r a = a.0
by_kind false text reading before after r a = a.0

pub no_key_answered : {X : Type 0} (f : StreamOf) (s : Strength) (slots : List Slot) (number work : ℕ) (reading : List ℕ → Option X) (l : List ℕ) (before after : List X) (r : Result ℕ Refusal) → ((a : ℕ) → get_or slots a empty ≡ empty) → LineAnswered f s slots number work reading l before after r → NoKeyAnswered number l r
no_key_answered f s slots number work reading l before after r none =
    ⊎_elim
    (λ no. inl (no.0, no.1))
    (λ is.
    let p = is.0 in
    let A : Slot → Type 0 = λ slot. Answered (first_checks s slot number work p) (sheet_text f s slot p) reading before after r in
    inr (p, is.1, is.2, by_kind (eqb p.kind number) _ reading before after r (subst A (none p.slot) is.3)))

pub no_key_refused : (number : ℕ) (l : List ℕ) (r : Result ℕ Refusal) → NoKeyAnswered number l r → is_ok r ≡ false
no_key_refused number l r = ⊎_elim (λ no. ap is_ok no.1.2) (λ is. ap is_ok is.3)
