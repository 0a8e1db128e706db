-- The pieces of a sealed line, one after the other, and the line that they make.
use Rattle.std.proofs.Common.{◌≡◌, ℕ, zero, suc, ◌+◌, ◌-◌, ◌^◌, ◌<◌, ◌≤◌, Bool, true, List, [], ◌∷◌, ◌++◌, length, get_or, take, drop, replicate, Ok, Err, codes, sym, refl, ap, ◌∙◌, ap₂, ⊎_elim, append_assoc, arith}
use Rattle.std.specs.List.{AllByRecursion}
use Rattle.std.proofs.lemmas.List.{append_cancel_left, take-append-drop, take_at, drop_at, drop-drop, length-take-le, length-replicate}
use Rattle.std.proofs.ByRecursion.{All-weaker}
use Rattle.shape.specs.Decimal.{figures}
use Rattle.shape.specs.Form.{Digit}
use Rattle.shape.specs.Outcome.{Read, Fault, Outcome, shift, CarriesTo, Then, Is}
use Rattle.shape.specs.Token.{Token}
use Rattle.shape.proofs.Carry.{shift_shift}
use Rattle.shape.proofs.Figures.{figures_one, same_figures}
use Rattle.shape.proofs.Lines.{Apart, Line}
use Rattle.shape.proofs.Parts.{part_literal, part_token, part_goes, part_apart, is_apart}
use Rattle.shape.proofs.Tokens.{parts_agree}
use Rattle.sealed.specs.Frame.{Value, HexOf, FromEnd, FromText, FromSiv, FromSerial, FromKind, Whole, Found, Missed}
use Rattle.sealed.specs.Hex.{Byte, HexDigit, hex_of}
use Rattle.sealed.specs.Limits.{last_slot, first_kind, last_kind, first_serial, last_serial, siv_length, text_length}
use Rattle.sealed.specs.Line.{Parts, Lawful, SealedLine, OneReading, header_of, rest_of, sealed_line}
use Rattle.sealed.proofs.Hexes.{hex_digits, same_hex}
use Rattle.sealed.proofs.Values.{figures_digits}

-- a byte of a token: what follows one is the bracket
abbrev pub Inner : ℕ → Type 0
Inner b = b ≡ 41 → ⊥

-- a set of writings that begin with the bracket, one of which is known
pub record Closing (H : List ℕ → Type 0) : Type 0 where
  pub ends : (v : List ℕ) → H v → (0 < length v) × (Inner (get_or v 0 0) → ⊥)
  pub some : List ℕ
  pub is : H some

-- a set of tokens, one of which is known
pub record Inside (T : List ℕ → Type 0) : Type 0 where
  pub class : (t : List ℕ) → T t → AllByRecursion Inner t
  pub some : List ℕ
  pub is : T some

-- From what was read up to `at`, where a literal and a token follow, to what follows them.
module _ (p : List ℕ) (T H G : List ℕ → Type 0) (tokens : Inside T) (rest : Closing H) (s : List ℕ) (at : ℕ) (goes : CarriesTo G (Then (Is p) (Then T H)) s at) where
  pub found_goes : (end : ℕ) (t : List ℕ) → at ≤ end → Found p T (drop at s) (end - at) t → CarriesTo G H s end
  found_goes end t le f r o =
      let n = end - at in
      let m = length t in
      let e : at + n ≡ end = omega arith in
      let o₁ : Outcome H (drop n (drop at s)) r = rw (drop-drop n at s, e) o in
      let here : take m (drop (length p) (drop at s)) ≡ t = rw f.cut (take_at t (drop n (drop at s)) m refl) in
      let token : Token T (drop (length p) (drop at s)) (Ok m) = (f.munch, rw here f.is) in
      let o₂ : Outcome H (drop (length p + m) (drop at s)) r = rw f.long o₁ in
      let x = part_goes Inner p T H tokens.class rest.ends (drop at s) (length p) m f.literal token r o₂ in
      let y : Outcome (Then (Is p) (Then T H)) (drop at s) (shift n r) = rw f.long at x in
      rw (← e, ← shift_shift at n r) (goes (shift n r) y)

  pub missed_fault : (end : ℕ) → at ≤ end → Missed p T (drop at s) (end - at) → Fault G s end
  missed_fault end le x =
      let e : at + (end - at) ≡ end = omega arith in
      rw (← e) (goes (Err (end - at)) (⊎_elim (λ o. part_literal Inner p T H tokens.class rest.ends (drop at s) (end - at) tokens.some rest.some tokens.is rest.is o) (λ o.
      rw o.3 (part_token Inner p T H tokens.class rest.ends (drop at s) (length p) o.0 o.1 rest.some rest.is o.2)) x))

-- a literal and a token read by a reader of each
pub found_from : (p : List ℕ) (T : List ℕ → Type 0) (s : List ℕ) (m : ℕ) (t : List ℕ) → Read (Is p) s (length p) → Token T (drop (length p) s) (Ok m) → take m (drop (length p) s) ≡ t → Found p T s (length p + m) t
found_from p T s m t o k e =
    let long : m ≡ length t = sym (length-take-le m (drop (length p) s) k.0.fits) ∙ ap length e in
    record {
      literal = o;
      cut = sym (take-append-drop m (drop (length p) s)) ∙ ap₂ ◌++◌ e (drop-drop m (length p) s);
      long = ap (λ x. length p + x) (sym long);
      munch = rw (← long) k.0;
      is = rw (← e) k.1;
    }

-- the whole front, spelt out
pub found_spells : (p : List ℕ) (T : List ℕ → Type 0) (s : List ℕ) (n : ℕ) (t : List ℕ) → Found p T s n t → s ≡ p ++ (t ++ drop n s)
found_spells p T s n t f =
    let o = f.literal in
    let left : drop (length p) s ≡ o.back = rw o.cut (drop_at o.front o.back (length p) o.long) in
    o.cut ∙ ap₂ ◌++◌ o.is (sym left ∙ f.cut)

-- the tokens of the line
value_inner : (low high : ℕ) → high < 2 ^ 64 → (t : List ℕ) → Value low high t → AllByRecursion Inner t
value_inner low high h t x = rw x.3 (All-weaker Digit Inner (λ b d. omega arith) _ (figures_digits x.0 (omega (arith, x.2))))

pub values : (low high : ℕ) → low ≤ 1 → 1 ≤ high → high < 2 ^ 64 → Inside (Value low high)
values low high l h k = record { class = value_inner low high k; some = 49 ∷ []; is = (1, l, h, sym (figures_one 1 (omega arith))) }

hex_inner : (allowed : ℕ → Bool) (t : List ℕ) → HexOf allowed t → AllByRecursion Inner t
hex_inner allowed t x = rw x.3 (All-weaker HexDigit Inner (λ b d. omega arith) _ (hex_digits x.0 x.1))

pub zero_bytes : (n : ℕ) → AllByRecursion Byte (replicate n 0)
zero_bytes zero = tt
zero_bytes (suc n) = (omega arith, zero_bytes n)

pub hexes : (allowed : ℕ → Bool) (n : ℕ) → allowed n ≡ true → Inside (HexOf allowed)
hexes allowed n ok = record { class = hex_inner allowed; some = hex_of (replicate n 0); is = (replicate n 0, zero_bytes n, ap allowed (length-replicate n 0) ∙ ok, refl) }

pub slots : Inside (Value 0 last_slot)
slots = values 0 last_slot (omega arith) (omega arith) (omega arith)

pub kinds : Inside (Value first_kind last_kind)
kinds = values first_kind last_kind (omega arith) (omega arith) (omega arith)

pub serials : Inside (Value first_serial last_serial)
serials = values first_serial last_serial (omega arith) (omega arith) (omega arith)

pub sivs : Inside (HexOf siv_length)
sivs = hexes siv_length 8 refl

pub texts : Inside (HexOf text_length)
texts = hexes text_length 0 refl

-- what follows them
pub from_end : Closing FromEnd
from_end = record { ends = λ v e. rw e (omega arith, λ i. i refl); some = codes "))"; is = refl }

closing : (q : List ℕ) (T H : List ℕ → Type 0) → Inside T → Closing H → Closing (Then (Is (41 ∷ q)) (Then T H))
closing q T H tokens rest =
    record {
      ends = λ v g. rw (g.4, g.2) (omega arith, λ i. i refl);
      some = (41 ∷ q) ++ (tokens.some ++ rest.some);
      is = (41 ∷ q, tokens.some ++ rest.some, refl, (tokens.some, rest.some, tokens.is, rest.is, refl), refl);
    }

pub from_text : Closing FromText
from_text = closing (codes " (text ") (HexOf text_length) FromEnd texts from_end

pub from_siv : Closing FromSiv
from_siv = closing (codes " (siv ") (HexOf siv_length) FromText sivs from_text

pub from_serial : Closing FromSerial
from_serial = closing (codes " (serial ") (Value first_serial last_serial) FromSiv serials from_siv

pub from_kind : Closing FromKind
from_kind = closing (codes " (kind ") (Value first_kind last_kind) FromSerial kinds from_serial

-- no writing of the whole begins another
step_apart : (p : List ℕ) (T H : List ℕ → Type 0) → Inside T → Closing H → Apart H → Apart (Then (Is p) (Then T H))
step_apart p T H tokens rest = part_apart Inner p T H tokens.class rest.ends

pub whole_apart : Apart Whole
whole_apart =
    step_apart _ _ _ slots from_kind (step_apart _ _ _ kinds from_serial (step_apart _ _ _ serials from_siv (step_apart _ _ _ sivs from_text (step_apart _ _ _ texts from_end (is_apart (codes "))"))))))

-- The line as its reader goes through it.
abbrev pub spelling : Parts → List ℕ → List ℕ
spelling p rest =
    codes "(sealed (slot " ++ (figures p.slot ++ (codes ") (kind " ++ (figures p.kind ++ (codes ") (serial " ++ (figures p.serial ++ (codes ") (siv " ++ (hex_of p.siv ++ (codes ") (text " ++ (hex_of p.text ++ (codes "))" ++ rest))))))))))

pub header_more : (a b c : ℕ) (rest : List ℕ) → header_of a b c ++ rest ≡ codes "(sealed (slot " ++ (figures a ++ (codes ") (kind " ++ (figures b ++ (codes ") (serial " ++ (figures c ++ (codes ") " ++ rest))))))
unfolding header_of
header_more a b c rest = simp append_assoc

pub spelling_more : (p : Parts) (rest : List ℕ) → spelling p [] ++ rest ≡ spelling p rest
spelling_more p rest = simp append_assoc

pub spelt : (p : Parts) → sealed_line p ≡ spelling p (10 ∷ [])
unfolding sealed_line header_of rest_of
spelt p = simp append_assoc

-- a token and what follows it are the same in two equal writings
same_step : (p t u v w : List ℕ) → AllByRecursion Inner t → AllByRecursion Inner u → (0 < length v) × (Inner (get_or v 0 0) → ⊥) → (0 < length w) × (Inner (get_or w 0 0) → ⊥) → p ++ (t ++ v) ≡ p ++ (u ++ w) → (t ≡ u) × (v ≡ w)
same_step p t u v w a b c d e = parts_agree Inner t u v w a b c.1 c.0 d.1 d.0 (append_cancel_left p (t ++ v) (u ++ w) e)

same_parts : (p q : Parts) → p.slot ≡ q.slot → p.kind ≡ q.kind → p.serial ≡ q.serial → p.siv ≡ q.siv → p.text ≡ q.text → p ≡ q
same_parts p q e₁ e₂ e₃ e₄ e₅ =
    let made : ℕ → ℕ → ℕ → List ℕ → List ℕ → Parts = λ a b c d e. record { slot = a; kind = b; serial = c; siv = d; text = e } in
    ap (λ a. made a p.kind p.serial p.siv p.text) e₁ ∙ ap (λ b. made q.slot b p.serial p.siv p.text) e₂ ∙ ap (λ c. made q.slot q.kind c p.siv p.text) e₃ ∙ ap₂ (λ d e. made q.slot q.kind q.serial d e) e₄ e₅

figures_inner : (n : ℕ) → n < 2 ^ 64 → AllByRecursion Inner (figures n)
figures_inner n h = value_inner n n h (figures n) (n, omega arith, omega arith, refl)

bytes_inner : (bytes : List ℕ) → AllByRecursion Byte bytes → AllByRecursion Inner (hex_of bytes)
bytes_inner bytes a = hex_inner (λ _. true) (hex_of bytes) (bytes, a, refl, refl)

pub one_reading : OneReading
one_reading p q a b e =
    let x : spelling p (10 ∷ []) ≡ spelling q (10 ∷ []) = sym (spelt p) ∙ e ∙ spelt q in
    let pa = a.head in
    let qa = b.head in
    let s₁ = same_step (codes "(sealed (slot ") (figures p.slot) (figures q.slot) _ _ (figures_inner p.slot (omega (arith, pa.slot_last))) (figures_inner q.slot (omega (arith, qa.slot_last))) (omega arith, λ i. i refl) (omega arith, λ i. i refl) x in
    let s₂ = same_step (codes ") (kind ") (figures p.kind) (figures q.kind) _ _ (figures_inner p.kind (omega (arith, pa.kind_last))) (figures_inner q.kind (omega (arith, qa.kind_last))) (omega arith, λ i. i refl) (omega arith, λ i. i refl) s₁.1 in
    let s₃ = same_step (codes ") (serial ") (figures p.serial) (figures q.serial) _ _ (figures_inner p.serial (omega (arith, pa.serial_last))) (figures_inner q.serial (omega (arith, qa.serial_last))) (omega arith, λ i. i refl) (omega arith, λ i. i refl) s₂.1 in
    let s₄ = same_step (codes ") (siv ") (hex_of p.siv) (hex_of q.siv) _ _ (bytes_inner p.siv a.siv_bytes) (bytes_inner q.siv b.siv_bytes) (omega arith, λ i. i refl) (omega arith, λ i. i refl) s₃.1 in
    let s₅ = same_step (codes ") (text ") (hex_of p.text) (hex_of q.text) _ _ (bytes_inner p.text a.text_bytes) (bytes_inner q.text b.text_bytes) (omega arith, λ i. i refl) (omega arith, λ i. i refl) s₄.1 in
    let e₁ : p.slot ≡ q.slot = same_figures _ _ (omega (arith, pa.slot_last)) (omega (arith, qa.slot_last)) s₁.0 in
    let e₂ : p.kind ≡ q.kind = same_figures _ _ (omega (arith, pa.kind_last)) (omega (arith, qa.kind_last)) s₂.0 in
    let e₃ : p.serial ≡ q.serial = same_figures _ _ (omega (arith, pa.serial_last)) (omega (arith, qa.serial_last)) s₃.0 in
    let e₄ : p.siv ≡ q.siv = same_hex _ _ a.siv_bytes b.siv_bytes s₄.0 in
    let e₅ : p.text ≡ q.text = same_hex _ _ a.text_bytes b.text_bytes s₅.0 in
    same_parts p q e₁ e₂ e₃ e₄ e₅

-- the line by its pieces is the line
pub line_sealed : (l : List ℕ) → Line Whole l → SealedLine l
line_sealed l x =
    let w = x.1 in
    let slot = w.3 in
    let k = slot.3 in
    let kind = k.3 in
    let n = kind.3 in
    let serial = n.3 in
    let i = serial.3 in
    let siv = i.3 in
    let t = siv.3 in
    let text = t.3 in
    let p : Parts = record { slot = slot.2.0; kind = kind.2.0; serial = serial.2.0; siv = siv.2.0; text = text.2.0 } in
    let e₅ : siv.1 ≡ codes ") (text " ++ (hex_of text.2.0 ++ codes "))") = t.4 ∙ ap₂ ◌++◌ t.2 (text.4 ∙ ap₂ ◌++◌ text.2.3 text.3) in
    let e₄ : serial.1 ≡ codes ") (siv " ++ (hex_of siv.2.0 ++ siv.1) = i.4 ∙ ap₂ ◌++◌ i.2 (siv.4 ∙ ap (λ z. z ++ siv.1) siv.2.3) in
    let e₃ : kind.1 ≡ codes ") (serial " ++ (figures serial.2.0 ++ serial.1) = n.4 ∙ ap₂ ◌++◌ n.2 (serial.4 ∙ ap (λ z. z ++ serial.1) serial.2.3) in
    let e₂ : slot.1 ≡ codes ") (kind " ++ (figures kind.2.0 ++ kind.1) = k.4 ∙ ap₂ ◌++◌ k.2 (kind.4 ∙ ap (λ z. z ++ kind.1) kind.2.3) in
    let e₁ : x.0 ≡ codes "(sealed (slot " ++ (figures slot.2.0 ++ slot.1) = w.4 ∙ ap₂ ◌++◌ w.2 (slot.4 ∙ ap (λ z. z ++ slot.1) slot.2.3) in
    let e : x.0 ≡ spelling p [] = rw (e₁, e₂, e₃, e₄, e₅) in
    let lawful : Lawful p = record {
      head = record { slot_last = slot.2.2; kind_first = kind.2.1; kind_last = kind.2.2; serial_first = serial.2.1; serial_last = serial.2.2 };
      siv_long = siv.2.2;
      siv_bytes = siv.2.1;
      text_long = text.2.2;
      text_bytes = text.2.1;
    } in
    (p, lawful, x.2 ∙ ap (λ z. z ++ 10 ∷ []) e ∙ spelling_more p (10 ∷ []) ∙ sym (spelt p))

pub sealed_whole : (l : List ℕ) → SealedLine l → Line Whole l
sealed_whole l x =
    let p = x.0 in
    let a = x.1 in
    let h = a.head in
    (spelling p [], (_, _, refl, (_, _, (p.slot, omega arith, h.slot_last, refl), (_, _, refl, (_, _, (p.kind, h.kind_first, h.kind_last, refl), (_, _, refl, (_, _, (p.serial, h.serial_first, h.serial_last, refl), (_, _, refl, (_, _, (p.siv, a.siv_bytes, a.siv_long, refl), (_, _, refl, (_, codes "))", (p.text, a.text_bytes, a.text_long, refl), refl, refl), refl), refl), refl), refl), refl), refl), refl), refl), refl), x.2 ∙ spelt p ∙ sym (spelling_more p (10 ∷ [])))
