use Rattle.std.proofs.Common.{◌≡◌, ℕ, ◌+◌, ◌*◌, ◌<◌, ◌≤◌, List, [], ◌∷◌, ◌++◌, length, get_or, take, drop, set, sym, ap, ◌∙◌, arith}
use Rattle.std.proofs.lemmas.List.{drop-drop, length-drop, get_or-drop}
use Rattle.sealed.specs.Hex.{bytes_of, digit_value}
use Rattle.sealed.proofs.Hexes.{value_small}
use Rattle.sealed.proofs.Overs.{length_bytes, front_more, front_all}
use Rattle.sealed.proofs.hex.put_bytes.Goals as goal

abbrev byte : List ℕ → ℕ
byte pair = digit_value (get_or pair 0 0) * 16 + digit_value (get_or pair 1 0)

-- the first pair of digits writes the first byte
first_byte : (pair digits rest : List ℕ) → digits ≡ pair ++ rest → length pair ≡ 2 → bytes_of digits ≡ byte pair ∷ bytes_of rest
first_byte [] digits rest e two = absurd (omega arith)
first_byte (c ∷ []) digits rest e two = absurd (omega arith)
first_byte (c ∷ (d ∷ [])) digits rest e two = ap bytes_of e
first_byte (c ∷ (d ∷ (x ∷ pair))) digits rest e two = absurd (omega arith)

-- one pair more, of the digits that are left after i bytes
module _ (digits left pair rest : List ℕ) (i : ℕ) (was : bytes_of left ≡ drop i (bytes_of digits)) (cut : left ≡ pair ++ rest) (two : length pair ≡ 2) where
  next : byte pair ∷ bytes_of rest ≡ drop i (bytes_of digits)
  next = sym (first_byte pair left rest cut two) ∙ was

  within : i < length (bytes_of digits)
  within = omega (arith, ap length next, length-drop i (bytes_of digits))

  beyond : bytes_of rest ≡ drop (i + 1) (bytes_of digits)
  beyond = ap (drop 1) next ∙ drop-drop 1 i (bytes_of digits)

  written : (o out : List ℕ) → i < length o → out ≡ take i (bytes_of digits) ++ drop i o → set out i (byte pair) ≡ take (i + 1) (bytes_of digits) ++ drop (i + 1) o
  written o out m done =
      let here : byte pair ≡ get_or (bytes_of digits) i 0 = ap (λ z. get_or z 0 0) next ∙ get_or-drop i (bytes_of digits) 0 0 ∙ ap (λ k. get_or (bytes_of digits) k 0) (omega arith) in
      ap (λ z. set z i (byte pair)) done ∙ front_more (bytes_of digits) o i (byte pair) within m here

pub overflow_mul-out : goal.overflow_mul-out
overflow_mul-out c = omega (arith, value_small (get_or c.in-Some.pair.now 0 0), c.nibble.ensures)

pub overflow_add-out : goal.overflow_add-out
overflow_add-out c = omega (arith, value_small (get_or c.in-Some.pair.now 0 0), c.nibble.ensures, value_small (get_or c.in-Some.pair.now 1 0), c.nibble-in-loop-i.ensures)

pub loop-i-preserved : goal.loop-i-preserved
loop-i-preserved c =
    let step = c.in-Some.ensures.steps in
    let inv = c.loop-i.invariant in
    let two = step.0.1.1 ∙ inv.two in
    let l = within c.args.digits.now _ _ _ _ inv.rest step.0.1.0 two in
    let e : c.nibble.result * 16 + c.nibble-in-loop-i.result ≡ byte c.in-Some.pair.now = omega (arith, c.nibble.ensures, c.nibble-in-loop-i.ensures) in
    record {
      two = step.0.0 ∙ inv.two;
      few = omega (arith, l, step.2);
      rest = rw step.2 (beyond c.args.digits.now _ _ _ _ inv.rest step.0.1.0 two);
      done = rw (step.1, step.2, e) (written c.args.digits.now _ _ _ _ inv.rest step.0.1.0 two c.args.out.now c.loop-i.out (omega (arith, l, c.requires)) inv.done);
    }

none_left : (digits left : List ℕ) (i : ℕ) → bytes_of left ≡ drop i (bytes_of digits) → length left < 2 → i ≤ length (bytes_of digits) → i ≡ length (bytes_of digits)
none_left digits [] i was few l = omega (arith, ap length was, length-drop i (bytes_of digits))
none_left digits (c ∷ []) i was few l = omega (arith, ap length was, length-drop i (bytes_of digits))
none_left digits (c ∷ (d ∷ left)) i was few l = absurd (omega arith)

pub returns : goal.returns
returns c =
    let step = c.in-None.ensures.steps in
    let inv = c.loop-i.invariant in
    record {
      len = sym (length_bytes c.args.digits.now);
      after = inv.done ∙ front_all (bytes_of c.args.digits.now) c.args.out.now _ (none_left c.args.digits.now _ _ inv.rest (omega (arith, step.0.1.0, inv.two)) inv.few);
    }
