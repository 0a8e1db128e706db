-- Hexadecimal digits and the bytes that they write.
use Rattle.std.proofs.Common.{◌≡◌, ℕ, zero, suc, ◌+◌, ◌-◌, ◌*◌, ◌/◌, ◌%◌, ◌<◌, Bool, true, List, [], ◌∷◌, ◌++◌, length, take, replicate, Ok, Err, sym, refl, ap, ◌∙◌, ap₂, inl, arith, length-append}
use Rattle.std.specs.List.{AllByRecursion}
use Rattle.std.proofs.lemmas.List.{length-take-le, length-replicate}
use Rattle.std.proofs.ByRecursion.{All-append}
use Rattle.std.proofs.lemmas.Bool.Decides.{nat_tests}
use Rattle.shape.specs.Token.{Munch, Runs, Token}
use Rattle.shape.proofs.Numbers.{grown_length, grown_byte}
use Rattle.sealed.specs.Frame.{HexOf, Most}
use Rattle.sealed.specs.Hex.{Byte, HexDigit, hex_digit, hex_of, digit_value, bytes_of}

value_digit : (n : ℕ) → n < 16 → digit_value (hex_digit n) ≡ n
unfolding digit_value hex_digit
value_digit n h = grind (arith, nat_tests)

pub digit_is : (n : ℕ) → n < 16 → HexDigit (hex_digit n)
unfolding hex_digit
digit_is n h = grind (arith, nat_tests)

digit_back : (c : ℕ) → HexDigit c → hex_digit (digit_value c) ≡ c
unfolding digit_value hex_digit
digit_back c h = grind (arith, nat_tests)

pub value_small : (c : ℕ) → digit_value c < 16
unfolding digit_value
value_small c = grind (arith, nat_tests)

pub length_hex : (bytes : List ℕ) → length (hex_of bytes) ≡ 2 * length bytes
length_hex [] = refl
length_hex (b ∷ bytes) = omega (arith, length_hex bytes)

-- the digits of one byte more
pub hex_push : (bytes : List ℕ) (b : ℕ) → hex_of (bytes ++ b ∷ []) ≡ (hex_of bytes ++ hex_digit (b / 16) ∷ []) ++ hex_digit (b % 16) ∷ []
hex_push [] b = refl
hex_push (c ∷ bytes) b = ap (λ z. hex_digit (c / 16) ∷ (hex_digit (c % 16) ∷ z)) (hex_push bytes b)

pub hex_digits : (bytes : List ℕ) → AllByRecursion Byte bytes → AllByRecursion HexDigit (hex_of bytes)
hex_digits [] a = tt
hex_digits (b ∷ bytes) a = (digit_is (b / 16) (omega (arith, a.0)), (digit_is (b % 16) (omega arith), hex_digits bytes a.1))

pub bytes_hex : (bytes : List ℕ) → AllByRecursion Byte bytes → bytes_of (hex_of bytes) ≡ bytes
bytes_hex [] a = refl
bytes_hex (b ∷ bytes) a =
    let h = value_digit (b / 16) (omega (arith, a.0)) in
    let l = value_digit (b % 16) (omega arith) in
    ap₂ ◌∷◌ (omega arith) (bytes_hex bytes a.1)

pub same_hex : (x y : List ℕ) → AllByRecursion Byte x → AllByRecursion Byte y → hex_of x ≡ hex_of y → x ≡ y
same_hex x y a b e = sym (bytes_hex x a) ∙ ap bytes_of e ∙ bytes_hex y b

pub bytes_small : (digits : List ℕ) → AllByRecursion Byte (bytes_of digits)
bytes_small [] = tt
bytes_small (c ∷ []) = tt
bytes_small (c ∷ (d ∷ digits)) = (omega (arith, value_small c, value_small d), bytes_small digits)

-- digits of whole bytes
pub hex_bytes : (k : ℕ) (digits : List ℕ) → length digits ≡ 2 * k → AllByRecursion HexDigit digits → (hex_of (bytes_of digits) ≡ digits) × (length (bytes_of digits) ≡ k)
hex_bytes zero [] e a = (refl, refl)
hex_bytes zero (c ∷ digits) e a = absurd (omega arith)
hex_bytes (suc k) [] e a = absurd (omega arith)
hex_bytes (suc k) (c ∷ []) e a = absurd (omega arith)
hex_bytes (suc k) (c ∷ (d ∷ digits)) e a =
    let vc = value_small c in
    let vd = value_small d in
    let r = hex_bytes k digits (omega arith) a.1.1 in
    let h : (digit_value c * 16 + digit_value d) / 16 ≡ digit_value c = omega arith in
    let l : (digit_value c * 16 + digit_value d) % 16 ≡ digit_value d = omega arith in
    (ap₂ ◌∷◌ (ap hex_digit h ∙ digit_back c a.0) (ap₂ ◌∷◌ (ap hex_digit l ∙ digit_back d a.1.0) r.0), omega (arith, r.1))

pub hex_token_is : (allowed : ℕ → Bool) (k : ℕ) (digits : List ℕ) → length digits ≡ 2 * k → AllByRecursion HexDigit digits → allowed k ≡ true → HexOf allowed digits
hex_token_is allowed k digits e a ok =
    let r = hex_bytes k digits e a in
    (bytes_of digits, bytes_small digits, ap allowed r.1 ∙ ok, sym r.0)

all_zeros : (m : ℕ) → AllByRecursion HexDigit (replicate m 48)
all_zeros zero = tt
all_zeros (suc m) = (inl (omega arith, omega arith), all_zeros m)

-- A run of digits, up to the longest that is allowed.
module _ (allowed : ℕ → Bool) (most : ℕ) (bound : Most allowed most) (s : List ℕ) (n : ℕ) (run : Runs HexDigit (2 * most) s n) where
  long : length (take n s) ≡ n
  long = length-take-le n s run.fits

  pub hex_munch : Munch (HexOf allowed) s n
  hex_munch =
      let pad : List ℕ = replicate (2 * most - n) 48 in
      let e : length (take n s ++ pad) ≡ 2 * most = simp (length-append, length-replicate) (omega (arith, long, run.few)) in
      record {
        fits = run.fits;
        begins = (pad, hex_token_is allowed most (take n s ++ pad) e (All-append HexDigit (take n s) pad run.all (all_zeros (2 * most - n))) bound.0);
        stops = λ l f.
            let x = f.1 in
            let digits : AllByRecursion HexDigit (take (n + 1) s ++ f.0) = rw x.3 (hex_digits x.0 x.1) in
            run.stops (omega (arith, grown_length s n f.0 l, ap length x.3, length_hex x.0, bound.1 (length x.0) x.2)) l (grown_byte s n f.0 l HexDigit digits);
      }

  pub hex_token : n % 2 ≡ 0 → allowed (n / 2) ≡ true → Token (HexOf allowed) s (Ok n)
  hex_token even ok = (hex_munch, hex_token_is allowed (n / 2) (take n s) (long ∙ omega arith) run.all ok)

  pub hex_part : (n % 2 ≡ 0 → allowed (n / 2) ≡ true → ⊥) → Token (HexOf allowed) s (Err n)
  hex_part other = (
    hex_munch,
    λ x.
        let twice : n ≡ 2 * length x.0 = sym long ∙ ap length x.3 ∙ length_hex x.0 in
        let half : n / 2 ≡ length x.0 = omega arith in
        other (omega arith) (ap allowed half ∙ x.2),
  )
