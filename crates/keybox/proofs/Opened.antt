-- Unmasking where all lengths are right.
use Rattle.std.proofs.Common.{◌≡◌, ℕ, ◌<◌, ◌≤◌, not, eqb, List, ◌++◌, length, drop, is_some, is_ok, IfErr, Some, None, Ok, Err, Option, Result, sym, refl, ap, ◌∙◌, arith}
use Rattle.std.proofs.lemmas.List.{drop_all, append-nil, length-replicate}
use Rattle.std.proofs.lemmas.Bool.{eq-eqb, false≢true}
use Rattle.refusal.specs.declared.Refusal.{Refusal}
use Rattle.refusal.specs.declared.Refusal.TheVariants.{SivLength, WrongSiv}
use Rattle.hash.specs.declared.Strength.{Strength}
use Rattle.hash.specs.Strength.{siv_length}
use Rattle.stream.specs.Stream.{StreamOf}
use Rattle.hs1.specs.Checks.{refuse_if, or_else, siv_checks, answer, put, cleared, wrong_siv}
use Rattle.hs1.specs.Calls.{Opens, OpenedThere}
use Rattle.hs1.specs.Seal.{opened}
use Rattle.hs1.proofs.Laws.{opened_was_sealed}
use Rattle.sheet.proofs.Lines.{length_ciphertext}
use Rattle.sheet.proofs.Sealed.{inputs_pass}

checks_pass : (s : Strength) (key nonce header text iv : ℕ) → 0 < key → key ≤ 32 → nonce ≡ 12 → header ≤ 46 → text ≤ 16384 → iv ≡ siv_length s → siv_checks s key nonce header text iv ≡ None
checks_pass s key nonce header text iv k0 k n h t e =
    ap (λ o. or_else o (refuse_if (not (eqb iv (siv_length s))) SivLength)) (inputs_pass key nonce header text k0 k n h t)
    ∙ ap (λ b. refuse_if (not b) SivLength) (eq-eqb iv (siv_length s) e)

ok_some : (t : Option (List ℕ)) → is_ok (answer (wrong_siv t)) ≡ is_some t
ok_some None = refl
ok_some (Some t) = refl

only_siv : (t : Option (List ℕ)) (r : Result (Unit {0}) Refusal) → r ≡ answer (wrong_siv t) → IfErr r (λ w. w ≡ WrongSiv)
only_siv t (Ok u) e = tt
only_siv None (Err w) e = cc
only_siv (Some t) (Err w) e = absurd (false≢true (ap is_ok e))

module _ (f : StreamOf) (bytes : (seed nonce : List ℕ) (place : ℕ) → f.byte seed nonce place < 256) (s : Strength) (key nonce header iv text : List ℕ) where
  abbrev plain : Option (List ℕ)
  plain = opened f s key nonce header iv text

  pub length_opened : (t : List ℕ) → plain ≡ Some t → length t ≡ length text
  length_opened t e = sym (length_ciphertext f bytes s key nonce header t) ∙ ap length (opened_was_sealed f s key nonce header iv text t e).1

  length_cleared : (o : Option (List ℕ)) → plain ≡ o → length (cleared (length text) o) ≡ length text
  length_cleared None e = length-replicate (length text) 0
  length_cleared (Some t) e = length_opened t e

  -- the text is opened where it stands, and refused only for its SIV
  pub unmasked : (after : List ℕ) (r : Result (Unit {0}) Refusal) → 0 < length key → length key ≤ 32 → length nonce ≡ 12 → length header ≤ 46 → length text ≤ 16384 → length iv ≡ siv_length s → Opens (siv_checks s (length key) (length nonce) (length header) (length text) (length iv)) plain (length text) text after r → OpenedThere plain (length text) after (is_ok r) × IfErr r (λ w. w ≡ WrongSiv)
  unmasked after r k0 k n h t e o =
      let none = checks_pass s (length key) (length nonce) (length header) (length text) (length iv) k0 k n h t e in
      let l = length_cleared plain refl in
      let answered = o.answer_is ∙ ap (λ c. answer (or_else c (wrong_siv plain))) none in (
        record {
          good_is = ap is_ok answered ∙ ok_some plain;
          after_is =
              o.out_is ∙ ap (λ c. put c (cleared (length text) plain) text) none
              ∙ ap (λ m. cleared (length text) plain ++ drop m text) l
              ∙ ap (λ x. cleared (length text) plain ++ x) (drop_all (length text) text (omega arith))
              ∙ append-nil (cleared (length text) plain);
        },
        only_siv plain r answered,
      )
