-- What calls leave in the book.
use Rattle.std.proofs.Common.{◌≡◌, ℕ, ◌<◌, false, cond, ◌&&◌, eqb, ltb, List, ◌∷◌, get_or, Some, None, sym, refl, ap, ◌∙◌, inl, inr, ⊎_elim, arith}
use Rattle.std.proofs.lemmas.Bool.{and_parts, and_right, ne_eqb, false_from_ne_true}
use Rattle.std.proofs.lemmas.Option.{none-some}
use Rattle.refusal.specs.declared.Refusal.TheVariants.{NoSlot, KeyLength}
use Rattle.hash.specs.declared.Strength.{Strength}
use Rattle.stream.specs.Stream.{StreamOf}
use Rattle.sealed.specs.Line.{LawfulHeader}
use Rattle.book.specs.declared.Slot.{Slot}
use Rattle.book.specs.Keys.{last_of, empty}
use Rattle.book.specs.Answers.{set_checks, slot_check}
use Rattle.book.specs.Book.{Call, KindOf, Sealing, setting, clearing, asking, opening, hits, good_key, key_in, text_of, slot_count, Granted, Opened}
use Rattle.book.specs.Stands.{Stands}
use Rattle.book.proofs.Opens.{key_within}
use Rattle.sheet.specs.Sheet.{sheet_line}
use Rattle.sheet.proofs.Lines as lines
use Rattle.sheet.proofs.Shapes.{text_bytes}
use Rattle.boxlaws.specs.Keeps.{SameFor, Unheard, NotFor, OtherSlotsKeep, RefusedKeep}

other_slot : (t s : ℕ) → (t ≡ s → ⊥) → hits t s ≡ false
other_slot t s ne = and_right (ltb t slot_count) (eqb s t) (ne_eqb s t (λ e. ne (sym e)))

module _ (seal : Sealing) (h : List Call) (s : ℕ) where
  -- a setting or a clearing that does not hit the slot
  missed_set : (t : ℕ) (k : List ℕ) → (good_key k && hits t s) ≡ false → SameFor seal s h (setting t k ∷ h)
  missed_set t k e = record { key = ap (λ b. cond b (Some k) (key_in h s)) e; kept = λ m o. (e, o); only = λ m o. o.1 }

  missed_clear : (t : ℕ) → hits t s ≡ false → SameFor seal s h (clearing t ∷ h)
  missed_clear t e = record { key = ap (λ b. cond b None (key_in h s)) e; kept = λ m o. (e, o); only = λ m o. o.1 }

  asked : (t : ℕ) → SameFor seal s h (asking t ∷ h)
  asked t = record { key = refl; kept = λ m o. o; only = λ m o. o }

  -- an opening that is not granted in the slot
  not_granted : (l : List ℕ) (q : KindOf) (work tray : ℕ) → ((m : ℕ) → Granted seal (key_in h s) (Opened seal h s) l q work tray s m → ⊥) → SameFor seal s h (opening l q work tray ∷ h)
  not_granted l q work tray never = record { key = refl; kept = λ m o. inl o; only = λ m o. ⊎_elim (λ x. x) (λ g. absurd (never m g)) o }

pub refused_keep : (seal : Sealing) → RefusedKeep seal
refused_keep seal h = (
  λ slot key why e s. missed_set seal h s slot key (false_from_ne_true _ (λ both.
      let p = and_parts (good_key key) (hits slot s) both in
      let q = and_parts (ltb slot slot_count) (eqb s slot) p.1 in
      let none : set_checks slot key ≡ None = ap (λ b. cond b (cond (good_key key) None (Some KeyLength)) (Some NoSlot)) q.0 ∙ ap (λ b. cond b None (Some KeyLength)) p.0 in
      none-some why (sym none ∙ e))),
  λ slot why e s. missed_clear seal h s slot (false_from_ne_true _ (λ both.
      let q = and_parts (ltb slot slot_count) (eqb s slot) both in
      let none : slot_check slot ≡ None = ap (λ b. cond b None (Some NoSlot)) q.0 in
      none-some why (sym none ∙ e))),
  λ slot s. asked seal h s slot,
)

-- An opening was refused and the slots stayed: none is granted by the book.
pub unheard : (seal : Sealing) (slots next : List Slot) (h : List Call) (l : List ℕ) (q : KindOf) (work tray : ℕ) → ((s : ℕ) → get_or next s empty ≡ get_or slots s empty) → Stands seal slots h → Stands seal next (opening l q work tray ∷ h) → Unheard seal h (opening l q work tray)
unheard seal slots next h l q work tray same st st' s =
    not_granted seal h s l q work tray (λ m g.
    let low = (st s).below m g.fresh in
    let high = (st' s).above m (inr g) in
    omega (arith, low, high, ap last_of (same s)))

module _ (f : StreamOf) (bytes : (seed nonce : List ℕ) (place : ℕ) → f.byte seed nonce place < 256) (s : Strength) where
  -- a granted line is a sealed line for the slot
  never : (h : List Call) (l : List ℕ) (q : KindOf) (work tray slot : ℕ) → NotFor slot (opening l q work tray) → (m : ℕ) → Granted (sheet_line f s) (key_in h slot) (Opened (sheet_line f s) h slot) l q work tray slot m → ⊥
  unfolding sheet_line
  never h l q work tray slot ne m g =
      let within = key_within h slot g.key g.key_is in
      let sealed = g.sealed in
      let header : LawfulHeader slot q.number m = record {
        slot_last = omega (arith, within);
        kind_first = ne.0.first;
        kind_last = ne.0.last;
        serial_first = omega (arith, sealed.serial_first);
        serial_last = omega (arith, sealed.serial_last);
      } in
      ne.1 _ (lines.lawful_parts f bytes s slot q.number m g.key (text_of g.lines) header (sealed.short, text_bytes q.has (λ x. x) ne.0.shaped g.lines sealed.lawful)) sealed.line_is refl

  pub others_keep : OtherSlotsKeep (sheet_line f s)
  others_keep h (setting t k) slot ne = missed_set (sheet_line f s) h slot t k (and_right (good_key k) (hits t slot) (other_slot t slot ne))
  others_keep h (clearing t) slot ne = missed_clear (sheet_line f s) h slot t (other_slot t slot ne)
  others_keep h (asking t) slot ne = asked (sheet_line f s) h slot t
  others_keep h (opening l q work tray) slot ne = not_granted (sheet_line f s) h slot l q work tray (never h l q work tray slot ne)
