-- A line that opened is refused when it comes again.
use Rattle.std.proofs.Common.{◌≡◌, ℕ, ◌<◌, true, cond, not, eqb, ltb, List, length, get_or, is_ok, Some, None, Ok, Err, Option, Result, sym, refl, ap, ◌∙◌, subst, ⊎_elim, arith}
use Rattle.std.proofs.lemmas.Bool.{false≢true, and_from, lt-ltb, le-ltb, eq-eqb}
use Rattle.refusal.specs.declared.Refusal.{Refusal}
use Rattle.refusal.specs.declared.Refusal.TheVariants.{StaleSerial}
use Rattle.hash.specs.declared.Strength.{Strength}
use Rattle.hash.specs.Strength.{siv_length}
use Rattle.stream.specs.Stream.{StreamOf}
use Rattle.sealed.specs.Line.{Parts, Lawful, sealed_line}
use Rattle.sealed.proofs.Pieces.{one_reading}
use Rattle.book.specs.declared.Slot.{Slot}
use Rattle.book.specs.Keys.{with_last, last_of, key_of, empty}
use Rattle.book.specs.Book.{slot_count}
use Rattle.keybox.specs.Opening.{first_checks, sheet_text, Answered, LineAnswered, SlotsAfter}
use Rattle.keybox.proofs.Judged.{chain_facts, chain_stale}
use Rattle.keybox.proofs.Passing.{split_ok}

module _ {X : Type 0} (f : StreamOf) (s : Strength) (number : ℕ) (reading : List ℕ → Option X) (l : List ℕ) (slots next : List Slot) where
  -- the line's slot after the first time
  there : (p : Parts) → Lawful p → l ≡ sealed_line p → SlotsAfter l slots next true → get_or next p.slot empty ≡ with_last (get_or slots p.slot empty) p.serial
  there p good is after =
      let within : p.slot < slot_count = omega (arith, good.head.slot_last) in
      after.granted p good is p.slot
      ∙ ap (λ b. cond b (with_last (get_or slots p.slot empty) p.serial) (get_or slots p.slot empty)) (and_from (ltb p.slot slot_count) (eqb p.slot p.slot) (lt-ltb p.slot slot_count within) (eq-eqb p.slot p.slot refl))

  -- the check of the serial fails the second time
  stale : (work again : ℕ) (p : Parts) (slot then : Slot) → then ≡ with_last slot p.serial → first_checks s slot number work p ≡ None → first_checks s then number again p ≡ Some StaleSerial
  stale work again p slot then e none =
      let facts = chain_facts (not (eqb p.kind number)) (key_of slot) (not (ltb (last_of slot) p.serial)) (not (eqb (length p.siv) (siv_length s))) (ltb work (length p.text)) none in
      let later : Slot = with_last slot p.serial in
      ap (λ (x : Slot). first_checks s x number again p) e
      ∙ chain_stale (not (eqb p.kind number)) (key_of later) facts.1.0 (not (ltb (last_of later) p.serial)) (not (eqb (length p.siv) (siv_length s))) (ltb again (length p.text)) facts.0 facts.1.1 (ap not (le-ltb (last_of later) p.serial (omega arith)))

  replayed : (work again : ℕ) (before mid after : List X) (n : ℕ) (r : Result ℕ Refusal) → LineAnswered f s slots number work reading l before mid (Ok n) → SlotsAfter l slots next true → LineAnswered f s next number again reading l mid after r → r ≡ Err StaleSerial
  replayed work again before mid after n r first moved second =
      ⊎_elim
      (λ no. absurd (let e = no.1.2 in let z : ◌≡◌ {A = ℕ} 0 1 = cc in omega arith))
      (λ was.
      let p = was.0 in
      let none = (split_ok reading before mid n (first_checks s (get_or slots p.slot empty) number work p) (sheet_text f s (get_or slots p.slot empty) p) was.3).0 in
      ⊎_elim
      (λ no. absurd (no.0 (p, was.1, was.2)))
      (λ is.
      let A : Parts → Type 0 = λ q. Answered (first_checks s (get_or next q.slot empty) number again q) (sheet_text f s (get_or next q.slot empty) q) reading mid after r in
      let a = subst A (one_reading is.0 p is.1 was.1 (sym is.2 ∙ was.2)) is.3 in
      let B : Option Refusal → Type 0 = λ o. Answered o (sheet_text f s (get_or next p.slot empty) p) reading mid after r in
      (subst B (stale work again p (get_or slots p.slot empty) (get_or next p.slot empty) (there p was.1 was.2 moved) none) a).0)
      second)
      first

  -- stream, strength and the length of the work buffer stayed
  pub stayed : (f' : StreamOf) (s' : Strength) (work work' : ℕ) → f' ≡ f → s' ≡ s → work' ≡ work → (mid after : List X) (r : Result ℕ Refusal) → LineAnswered f' s' next number work' reading l mid after r → LineAnswered f s next number work reading l mid after r
  stayed f' s' work work' ef es ew mid after r a =
      let A : StreamOf → Strength → ℕ → Type 0 = λ x y w. LineAnswered x y next number w reading l mid after r in
      subst (A f s) ew (subst (λ y. A f y work') es (subst (λ x. A x s' work') ef a))

  pub replay : (work again : ℕ) (before mid after : List X) (r r' : Result ℕ Refusal) → is_ok r ≡ true → LineAnswered f s slots number work reading l before mid r → SlotsAfter l slots next (is_ok r) → LineAnswered f s next number again reading l mid after r' → r' ≡ Err StaleSerial
  replay work again before mid after (Err why) r' ok first moved second = absurd (false≢true ok)
  replay work again before mid after (Ok n) r' ok first moved second = replayed work again before mid after n r' first moved second
