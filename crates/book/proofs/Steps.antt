-- How the slots and the book go on together, call by call.
use Rattle.std.proofs.Common.{◌≡◌, ℕ, Bool, true, false, cond, ◌&&◌, List, [], ◌∷◌, Some, None, Option, sym, refl, subst}
use Rattle.std.proofs.lemmas.Bool.{true≢false}
use Rattle.book.specs.declared.Slot.{Slot}
use Rattle.book.specs.Keys.{key_of, last_of, empty, slot_at}
use Rattle.book.specs.Book.{Sealing, setting, clearing, hits, good_key, key_in, Opened}
use Rattle.book.specs.Stands.{Agrees, Noted}

-- a slot that is set anew where b, and stays otherwise
struck : (b : Bool) (new old : Slot) (k was : Option (List ℕ)) (opened : ℕ → Type 0) → last_of new ≡ 0 → (b ≡ true → key_of new ≡ k) → Agrees old was opened → Agrees (cond b new old) (cond b k was) (λ m. (b ≡ false) × opened m)
struck true new old k was opened z e a =
    record { key_is = e refl; above = λ m p. absurd (true≢false p.0); below = λ m p. rw z p.0 }
struck false new old k was opened z e a =
    record { key_is = a.key_is; above = λ m p. a.above m p.1; below = λ m p. a.below m (p.0, λ j o. p.1 j (refl, o)) }

module _ (was slots : List Slot) (seal : Sealing) where
  -- where a setting passes its checks, the slot has the key and has opened nothing
  pub set_noted : (t : ℕ) (k : List ℕ) (new : Slot) → last_of new ≡ 0 → ((s : ℕ) → (good_key k && hits t s) ≡ true → key_of new ≡ Some k) → ((s : ℕ) → slot_at slots s ≡ cond (good_key k && hits t s) new (slot_at was s)) → Noted seal was slots (setting t k ∷ [])
  set_noted t k new last key put h st s =
      subst (λ v. Agrees v (key_in (setting t k ∷ h) s) (Opened seal (setting t k ∷ h) s)) (sym (put s))
      (struck _ new (slot_at was s) (Some k) (key_in h s) (Opened seal h s) last (key s) (st s))

  -- where a clearing does, the slot is empty
  pub clear_noted : (t : ℕ) → ((s : ℕ) → slot_at slots s ≡ cond (hits t s) empty (slot_at was s)) → Noted seal was slots (clearing t ∷ [])
  clear_noted t put h st s =
      subst (λ v. Agrees v (key_in (clearing t ∷ h) s) (Opened seal (clearing t ∷ h) s)) (sym (put s))
      (struck _ empty (slot_at was s) None (key_in h s) (Opened seal h s) refl (λ _. refl) (st s))
