-- A line that a box opened, and the sheet that its tray then holds.
use Rattle.std.proofs.Common.{◌≡◌, ℕ, ◌/◌, ◌%◌, ◌<◌, ◌≤◌, Bool, true, List, [], ◌∷◌, length, drop, take, is_ok, Some, Ok, Option, Result, sym, ap, ◌∙◌, subst, ⊎_elim}
use Rattle.std.proofs.lemmas.List.{take_at}
use Rattle.refusal.specs.declared.Refusal.{Refusal}
use Rattle.hash.specs.declared.Strength.{Strength}
use Rattle.stream.specs.Stream.{StreamOf}
use Rattle.chacha.specs.ChaCha.{byte_at, block, mixed, start}
use Rattle.chacha.specs.Rounds.{chacha_of}
use Rattle.chacha.specs.Words.{serialised_byte}
use Rattle.shape.specs.Form.{WellShaped}
use Rattle.kinds.specs.Text.{Sheet}
use Rattle.book.specs.declared.Slot.{Slot}
use Rattle.book.specs.Book.{Call, opening, kind_of, most_items, most_bytes}
use Rattle.book.specs.Law.{OpenLaw}
use Rattle.book.specs.Stands.{Stands, Noted}
use Rattle.sheet.specs.Sheet.{sheet_line}
use Rattle.keybox.specs.Opening.{LineAnswered, SlotsAfter}
use Rattle.keybox.proofs.Passing.{passed}
use Rattle.console.specs.Opening.{Given, printed}

-- what stands at a place of ChaCha is a byte
pub chacha_byte : (rounds : ℕ) (seed nonce : List ℕ) (place : ℕ) → (chacha_of rounds).byte seed nonce place < 256
unfolding byte_at block
chacha_byte rounds seed nonce place = serialised_byte (mixed (rounds / 2) (start seed nonce (place / 64))) (place % 64)

module _ {X : Type 0} (f : StreamOf) (bytes : (seed nonce : List ℕ) (place : ℕ) → f.byte seed nonce place < 256) (s : Strength)
    (lawful : X → Bool) (line : X → List ℕ) (number : ℕ) (reading : List ℕ → Option X)
    (numbered : (1 ≤ number) × (number ≤ 9))
    (shaped : (x : X) → lawful x ≡ true → WellShaped (line x))
    (found : (x : X) → lawful x ≡ true → reading (line x) ≡ Some x)
    (sound : (l : List ℕ) (x : X) → reading l ≡ Some x → (lawful x ≡ true) × (line x ≡ l)) where
  -- the items that the answer counts make a sheet
  pub sheet_there : (slots : List Slot) (l : List ℕ) (before after : List X) (n : ℕ) → LineAnswered f s slots number most_bytes reading l before after (Ok n) → Sheet lawful line (take n after)
  sheet_there slots l before after n answered =
      ⊎_elim
      (λ unread. let e = unread.1.2 in absurd (cc))
      (λ read.
      let o = passed f bytes s lawful line number reading numbered shaped found sound slots l most_bytes before read.0 read.1 read.2 after n read.3 in
      let there : take n after ≡ o.1.0 = ap (take n) o.1.3 ∙ take_at o.1.0 (drop n before) n (sym o.1.2) in
      let sheet : Sheet lawful line o.1.0 = record { all_lawful = o.1.1.seals.are_lawful; few = o.1.1.seals.few; short = o.1.1.seals.short } in
      let P : List X → Type 0 = λ xs. Sheet lawful line xs in
      subst P (sym there) sheet)
      answered

-- What the contract of `open_line` says with buffers of full size, and what was printed.
module _ {X : Type 0} (f : StreamOf) (s : Strength) (lawful : X → Bool) (line : X → List ℕ) (number : ℕ) (reading : List ℕ → Option X)
    (slots next : List Slot) (l : List ℕ) (work : ℕ) (before after : List X) (r : Result ℕ Refusal) where
  pub given : work ≡ most_bytes → length before ≡ most_items → LineAnswered f s slots number work reading l before after r → SlotsAfter l slots next (is_ok r) → Noted (sheet_line f s) slots next (opening l (kind_of number reading) work (length before) ∷ []) → ((h : List Call) → Stands (sheet_line f s) slots h → OpenLaw (sheet_line f s) lawful line number h l work before after r) → (p : List ℕ) → p ≡ printed line after r → Given f s lawful line number reading slots next l p
  given bytes full answered moved noted law p print =
      let A : ℕ → Type 0 = λ w. LineAnswered f s slots number w reading l before after r in
      let N : ℕ → Type 0 = λ w. Noted (sheet_line f s) slots next (opening l (kind_of number reading) w (length before) ∷ []) in
      let L : ℕ → Type 0 = λ w. (h : List Call) → Stands (sheet_line f s) slots h → OpenLaw (sheet_line f s) lawful line number h l w before after r in
      record {
        before = before;
        after = after;
        answer = r;
        full = full;
        answered = subst A bytes answered;
        moved = moved;
        noted = subst N bytes noted;
        law = subst L bytes law;
        print = print;
      }
