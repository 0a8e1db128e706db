-- The laws of sealing and opening.
use Rattle.std.proofs.Common.{◌≡◌, ℕ, Bool, true, false, cond, List, Some, None, sym, refl, ap, ◌∙◌, arith}
use Rattle.hash.specs.declared.Strength.{Strength}
use Rattle.stream.specs.Stream.{StreamOf}
use Rattle.stream.proofs.Masks.{masked_masked}
use Rattle.hs1.specs.Hs1.{hs1}
use Rattle.hs1.specs.Seal.{siv, under, ciphertext, same, opened}
use Rattle.hs1.specs.Laws.{SealedOpens, OpenedWasSealed, OneText}
use Rattle.hs1.proofs.Strings.{same_is, same_refl}

pub under_under : (f : StreamOf) (s : Strength) (key nonce iv text : List ℕ) → under f s key nonce iv (under f s key nonce iv text) ≡ text
unfolding under
under_under f s key nonce iv text = masked_masked (hs1 f s key nonce iv) 64 text

pub sealed_opens : SealedOpens
unfolding ciphertext opened
sealed_opens f s key nonce header text =
    let iv = siv f s key nonce header text in
    let u = under_under f s key nonce iv text in
    let t : same iv (siv f s key nonce header (under f s key nonce iv (under f s key nonce iv text))) ≡ true =
    ap (λ x. same iv (siv f s key nonce header x)) u ∙ same_refl iv
    in
    ap (λ b. cond b (Some (under f s key nonce iv (under f s key nonce iv text))) None) t ∙ ap Some u

-- what a test let through
passed : (b : Bool) (text other : List ℕ) → cond b (Some text) None ≡ Some other → (b ≡ true) × (text ≡ other)
passed true text other e = (refl, cc)
passed false text other e = let z : ◌≡◌ {A = ℕ} 0 1 = cc in absurd (omega arith)

pub opened_was_sealed : OpenedWasSealed
unfolding ciphertext opened
opened_was_sealed f s key nonce header iv cipher text e =
    let u = under f s key nonce iv cipher in
    let p = passed (same iv (siv f s key nonce header u)) u text e in
    let v : siv f s key nonce header text ≡ iv = ap (siv f s key nonce header) (sym p.1) ∙ sym (same_is iv (siv f s key nonce header u) p.0) in (
      v,
      ap (λ x. under f s key nonce x text) v ∙ ap (under f s key nonce iv) (sym p.1) ∙ under_under f s key nonce iv cipher,
    )

pub one_text : OneText
unfolding ciphertext
one_text f s key nonce header text other e h =
    let iv = siv f s key nonce header text in
    sym (under_under f s key nonce iv text)
    ∙ ap (under f s key nonce iv) (h ∙ ap (λ x. under f s key nonce x other) (sym e))
    ∙ under_under f s key nonce iv other
