-- What the law of the box says of a new box, and of a key that was just set.
use Rattle.std.proofs.Common.{◌≡◌, ℕ, ◌<◌, ◌≤◌, Bool, true, false, cond, ◌&&◌, eqb, ltb, List, ◌∷◌, ◌++◌, length, drop, is_ok, Some, Ok, Err, Option, Result, sym, refl, ap, ◌∙◌, subst, ⊎_elim, arith}
use Rattle.std.proofs.lemmas.Bool.{true≢false, false≢true, and_from, eq-eqb, lt-ltb}
use Rattle.refusal.specs.declared.Refusal.{Refusal}
use Rattle.kinds.specs.Text.{Sheet}
use Rattle.book.specs.Answers.{set_checks}
use Rattle.book.specs.Book.{Call, Sealing, setting, hits, good_key, key_in, slot_count, most_bytes}
use Rattle.book.specs.Law.{OpenLaw}
use Rattle.sheet.specs.declared.sealing.Unsealed.{Unsealed}
use Rattle.sheet.specs.Refused.{refusal_of}
use Rattle.sheet.specs.Sealing.{SealedAs, Written}
use Rattle.sheet.proofs.Answered.{checks_pass}
use Rattle.sheet.proofs.Measured.{sheet_measured}
use Rattle.boxlaws.specs.Opens.{OpensAnew}
use Rattle.boxlaws.specs.Keeps.{SetAnew}

-- the slot that a setting names is hit by it
pub hit : (slot : ℕ) (key : List ℕ) → slot < slot_count → good_key key ≡ true → (good_key key && hits slot slot) ≡ true
hit slot key h k =
    and_from (good_key key) (hits slot slot) k (and_from (ltb slot slot_count) (eqb slot slot) (lt-ltb slot slot_count h) (eq-eqb slot slot refl))

pub set_anew : (seal : Sealing) → SetAnew seal
set_anew seal h slot key m within good some =
    (some, λ j o. absurd (true≢false (sym (hit slot key within good) ∙ o.0)))

key_set : (h : List Call) (slot : ℕ) (key : List ℕ) → slot < slot_count → good_key key ≡ true → key_in (setting slot key ∷ h) slot ≡ Some key
key_set h slot key within good = ap (λ b. cond b (Some key) (key_in h slot)) (hit slot key within good)

module _ {X : Type 0} (seal : Sealing) (lawful : X → Bool) (line : X → List ℕ) (number : ℕ) (l : List ℕ) (work : ℕ) (before after : List X) where
  pub opens_anew : (h : List Call) (slot : ℕ) (key : List ℕ) (r : Result ℕ Refusal) → OpenLaw seal lawful line number (setting slot key ∷ h) l work before after r → OpensAnew seal lawful line number slot key l work before after r
  opens_anew h slot key (Err why) law within good bytes places serial items seals =
      absurd (false≢true ((law.exactly bytes places).1 (slot, serial, key, items, key_set h slot key within good, seals, set_anew seal h slot key serial within good seals.serial_first)))
  opens_anew h slot key (Ok n) law within good bytes places serial items seals =
      let d = law.delivered n refl in
      let same : items ≡ d.items = d.only slot serial key items (key_set h slot key within good) seals in
      let count : n ≡ length items = d.count ∙ ap length (sym same) in
      (ap Ok count, d.places ∙ ap (λ xs. xs ++ drop n before) (sym same) ∙ ap (λ k. items ++ drop k before) count)

-- A list that makes a sheet is sealed where there is room.
module _ {X : Type 0} (lawful : X → Bool) (line : X → List ℕ) where
  pub never_refused : (slot : ℕ) (key : List ℕ) (xs : List X) (l : List ℕ) (work : ℕ) (before after : List ℕ) (r : Result ℕ Unsealed) → false ≡ is_ok r → slot < slot_count → good_key key ≡ true → Sheet lawful line xs → length l ≤ length before → most_bytes ≤ work → SealedAs lawful line (set_checks slot key) xs l work before after (refusal_of r) → ⊥
  never_refused slot key xs l work before after (Ok n) e within good sheet room bytes a = true≢false (sym e)
  never_refused slot key xs l work before after (Err u) e within good sheet room bytes a =
      let P : Option Refusal → Type 0 = λ o. SealedAs lawful line o xs l work before after (Err u.why) in
      let w : Written lawful line xs l work before after (Err u.why) = subst P (checks_pass slot key within good) a in
      ⊎_elim (sheet_measured lawful line xs u.why sheet)
      (⊎_elim (λ short. omega (arith, short.1, sheet.short)) (λ tight. omega (arith, tight.2)))
      w.0
