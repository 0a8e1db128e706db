-- The checks of an opening, one after the other.
use Rattle.std.proofs.Common.{◌≡◌, ℕ, ◌-◌, ◌<◌, ◌≤◌, Bool, true, false, not, List, [], ◌++◌, length, take, drop, Some, None, Err, Option, Result, unwrap_or, sym, refl, ap, ◌∙◌, subst, arith}
use Rattle.std.specs.Option.{option_map}
use Rattle.std.proofs.lemmas.List.{take_at}
use Rattle.std.proofs.lemmas.Bool.{true≢false, false≢true, le-ltb, lt-ltb, eq-eqb, leb-true}
use Rattle.refusal.specs.declared.Refusal.{Refusal}
use Rattle.refusal.specs.declared.Refusal.TheVariants.{OtherKind, StaleSerial, SivLength, ShortWork, WrongSiv}
use Rattle.hash.specs.declared.Strength.{Strength}
use Rattle.hash.specs.Strength.{siv_length}
use Rattle.hs1.specs.Checks.{refuse_if, or_else}
use Rattle.hs1.specs.Calls.{OpenedThere}
use Rattle.hs1.specs.Seal.{opened}
use Rattle.stream.specs.Stream.{StreamOf}
use Rattle.sealed.specs.Line.{Parts, Lawful, header_of}
use Rattle.sealed.proofs.Lengths.{longest_header_is}
use Rattle.sheet.specs.Sheet.{nonce_of}
use Rattle.book.specs.declared.key.Key.{Key}
use Rattle.book.specs.declared.Slot.{Slot}
use Rattle.book.specs.Keys.{key_of, bytes_of}
use Rattle.kinds.specs.Text.{Fills}
use Rattle.keybox.specs.Opening.{no_key, first_checks, sheet_text, Answered}

abbrev pub chain : (a : Bool) (k : Option (List ℕ)) (b c d : Bool) → Option Refusal
chain a k b c d =
    or_else (refuse_if a OtherKind) (or_else (no_key k) (or_else (refuse_if b StaleSerial) (or_else (refuse_if c SivLength) (refuse_if d ShortWork))))

module _ (a : Bool) (k : Option (List ℕ)) (x : List ℕ) (b c d : Bool) (ea : a ≡ false) (ek : k ≡ Some x) where
  from_serial : chain a k b c d ≡ or_else (refuse_if b StaleSerial) (or_else (refuse_if c SivLength) (refuse_if d ShortWork))
  from_serial = ap (λ y. chain y k b c d) ea ∙ ap (λ y. chain false y b c d) ek

  pub chain_stale : b ≡ true → chain a k b c d ≡ Some StaleSerial
  chain_stale e = from_serial ∙ ap (λ y. or_else (refuse_if y StaleSerial) (or_else (refuse_if c SivLength) (refuse_if d ShortWork))) e

  from_siv : b ≡ false → chain a k b c d ≡ or_else (refuse_if c SivLength) (refuse_if d ShortWork)
  from_siv e = from_serial ∙ ap (λ y. or_else (refuse_if y StaleSerial) (or_else (refuse_if c SivLength) (refuse_if d ShortWork))) e

  pub chain_none : b ≡ false → c ≡ false → d ≡ false → chain a k b c d ≡ None
  chain_none e h w = from_siv e ∙ ap (λ y. or_else (refuse_if y SivLength) (refuse_if d ShortWork)) h ∙ ap (λ y. refuse_if y ShortWork) w

pub passes : (s : Strength) (slot : Slot) (number work : ℕ) (p : Parts) → p.kind ≡ number → (key : Key) → slot.key ≡ Some key → slot.last < p.serial → length p.siv ≡ siv_length s → length p.text ≤ work → first_checks s slot number work p ≡ None
passes s slot number work p kind key is later long room =
    chain_none _ (key_of slot) (bytes_of key) _ _ _ (ap not (eq-eqb p.kind number kind)) (ap (option_map bytes_of) is)
    (ap not (lt-ltb slot.last p.serial later))
    (ap not (eq-eqb (length p.siv) (siv_length s) long))
    (le-ltb work (length p.text) room)

-- Where no check fails, what is answered is by the text: none is a wrong SIV.
module _ {X : Type 0} (checks : Option Refusal) (text : Option (List ℕ)) (reading : List ℕ → Option X) (before after : List X) where
  pub wrong : checks ≡ None → text ≡ None → after ≡ before → Answered checks text reading before after (Err WrongSiv)
  wrong n e s =
      let P : Option Refusal → Type 0 = λ c. Answered c text reading before after (Err WrongSiv) in
      let Q : Option (List ℕ) → Type 0 = λ t. Answered None t reading before after (Err WrongSiv) in
      subst P (sym n) (subst Q (sym e) (refl, s))

  pub filled : (r : Result ℕ Refusal) (t : List ℕ) → checks ≡ None → text ≡ Some t → Fills reading t before after r → Answered checks text reading before after r
  filled r t n e h =
      let P : Option Refusal → Type 0 = λ c. Answered c text reading before after r in
      let Q : Option (List ℕ) → Type 0 = λ t. Answered None t reading before after r in
      subst P (sym n) (subst Q (sym e) h)

-- what unmasking says of the text
pub not_opened : (t : Option (List ℕ)) (n : ℕ) (after : List ℕ) (good : Bool) → OpenedThere t n after good → good ≡ false → t ≡ None
not_opened None n after good o e = refl
not_opened (Some t) n after good o e = absurd (true≢false (sym o.good_is ∙ e))

pub is_opened : (t : Option (List ℕ)) (n : ℕ) (after : List ℕ) (good : Bool) → OpenedThere t n after good → good ≡ true → t ≡ Some after
is_opened None n after good o e = absurd (false≢true (sym o.good_is ∙ e))
is_opened (Some t) n after good o e = ap Some (sym o.after_is)

-- the masked text as it stands at the front of the work buffer
pub text_there : (cipher before after : List ℕ) (n : ℕ) → n ≡ length cipher → after ≡ cipher ++ drop n before → take (n - 0) after ≡ cipher
text_there cipher before after n l e = ap (λ m. take m after) (omega (arith, l)) ∙ ap (take (length cipher)) e ∙ take_at cipher _ (length cipher) refl

-- what is unmasked is the text of the sheet
pub text_is : (f : StreamOf) (s : Strength) (slot : Slot) (key : Key) (p : Parts) (serial : ℕ) (header siv text : List ℕ) → slot.key ≡ Some key → serial ≡ p.serial → header ≡ header_of p.slot p.kind p.serial → siv ≡ p.siv → text ≡ p.text → sheet_text f s slot p ≡ opened f s (bytes_of key) (nonce_of serial) header siv text
text_is f s slot key p serial header siv text k n h i t =
    ap (λ o. opened f s (unwrap_or (option_map bytes_of o) []) (nonce_of p.serial) (header_of p.slot p.kind p.serial) p.siv p.text) k
    ∙ ap (λ x. opened f s (bytes_of key) (nonce_of x) (header_of p.slot p.kind p.serial) p.siv p.text) (sym n)
    ∙ ap (λ x. opened f s (bytes_of key) (nonce_of serial) x p.siv p.text) (sym h)
    ∙ ap (λ x. opened f s (bytes_of key) (nonce_of serial) header x p.text) (sym i)
    ∙ ap (λ x. opened f s (bytes_of key) (nonce_of serial) header siv x) (sym t)

-- the lengths that a lawful sheet has
pub header_few : (p : Parts) (header : List ℕ) → Lawful p → header ≡ header_of p.slot p.kind p.serial → length header ≤ 46
header_few p header a h = omega (arith, ap length h, longest_header_is p.slot p.kind p.serial a.head)

pub text_few : (p : Parts) (text : List ℕ) → Lawful p → text ≡ p.text → length text ≤ 16384
text_few p text a t = omega (arith, ap length t, leb-true (length p.text) 16384 a.text_long)

-- and the other way: where no check fails each test is false
pub chain_facts : (a : Bool) (k : Option (List ℕ)) (b c d : Bool) → chain a k b c d ≡ None → (a ≡ false) × ((x : List ℕ) × (k ≡ Some x)) × (b ≡ false) × (c ≡ false) × (d ≡ false)
chain_facts true k b c d e = absurd (let z : ◌≡◌ {A = ℕ} 0 1 = cc in omega arith)
chain_facts false None b c d e = absurd (let z : ◌≡◌ {A = ℕ} 0 1 = cc in omega arith)
chain_facts false (Some x) true c d e = absurd (let z : ◌≡◌ {A = ℕ} 0 1 = cc in omega arith)
chain_facts false (Some x) false true d e = absurd (let z : ◌≡◌ {A = ℕ} 0 1 = cc in omega arith)
chain_facts false (Some x) false false true e = absurd (let z : ◌≡◌ {A = ℕ} 0 1 = cc in omega arith)
chain_facts false (Some x) false false false e = (refl, (x, refl), refl, refl, refl)
