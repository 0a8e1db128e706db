-- What is written of forms are bytes.
use Rattle.std.proofs.Common.{◌≡◌, ℕ, ◌-◌, Bool, true, List, [], ◌∷◌, sym, subst, inl, inr, arith, lit<}
use Rattle.std.specs.List.{flat_map, AllByRecursion}
use Rattle.std.proofs.ByRecursion.{All-append, All-weaker}
use Rattle.shape.specs.Form.{Form, Args, form, none, number, inner, written, closed, Letter, Digit, Number, Shaped, ShapedArgs, WellShaped}
use Rattle.sealed.specs.Hex.{Byte}

digit_bytes : (t : List ℕ) → AllByRecursion Digit t → AllByRecursion Byte t
digit_bytes t p = All-weaker Digit Byte (λ b q. omega (arith, q.1)) t p

number_bytes : (t : List ℕ) → Number t → AllByRecursion Byte t
number_bytes t (inl u) = digit_bytes t u.2
number_bytes t (inr u) = subst (AllByRecursion Byte) (sym u.3) (lit< tt, digit_bytes u.0 u.1.2)

mutual
  written_bytes : (d : ℕ) (f : Form) → Shaped d f → AllByRecursion Byte (written f)
  written_bytes d (form word args) p =
      (lit< tt, All-append Byte word (closed args) (All-weaker Letter Byte (λ b q. omega (arith, q.1)) word p.1.2) (closed_bytes (d - 1) args p.2))

  closed_bytes : (d : ℕ) (a : Args) → ShapedArgs d a → AllByRecursion Byte (closed a)
  closed_bytes d none p = (lit< tt, tt)
  closed_bytes d (number text args) p = (lit< tt, All-append Byte text (closed args) (number_bytes text p.0) (closed_bytes d args p.1))
  closed_bytes d (inner f args) p = (lit< tt, All-append Byte (written f) (closed args) (written_bytes d f p.0) (closed_bytes d args p.1))

line_bytes : (l : List ℕ) → WellShaped l → AllByRecursion Byte l
line_bytes l p = subst (AllByRecursion Byte) (sym p.2) (All-append Byte (written p.0) (10 ∷ []) (written_bytes 4 p.0 p.1) (lit< tt, tt))

-- the text of lawful items is bytes
pub text_bytes : {X : Type 0} (lawful : X → Bool) (line : X → List ℕ) → ((x : X) → lawful x ≡ true → WellShaped (line x)) → (xs : List X) → AllByRecursion (λ x. lawful x ≡ true) xs → AllByRecursion Byte (flat_map line xs)
text_bytes lawful line shaped [] p = tt
text_bytes lawful line shaped (x ∷ xs) p =
    All-append Byte (line x) (flat_map line xs) (line_bytes (line x) (shaped x p.0)) (text_bytes lawful line shaped xs p.1)
