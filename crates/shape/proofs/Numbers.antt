-- From runs of a class of bytes to tokens.
use Rattle.std.proofs.Common.{◌≡◌, ℕ, suc, ◌+◌, ◌<◌, ◌≤◌, List, [], ◌∷◌, ◌++◌, length, get_or, take, Ok, Err, sym, refl, ap, ◌∙◌, inl, inr, ⊎_elim, append_assoc, one-add, arith, length-append}
use Rattle.std.specs.List.{AllByRecursion}
use Rattle.std.proofs.lemmas.List.{append-nil, length-take-le, take_more, get_or-take, get_or_append_left}
use Rattle.std.proofs.lemmas.Bool.{cases_eq, cases_lt}
use Rattle.std.proofs.lemmas.Bool.Decides.{nat_tests}
use Rattle.shape.specs.Column.{Front}
use Rattle.shape.specs.Form.{Letter, Digit, Word, Unsigned, Number}
use Rattle.shape.specs.Limits.{most_letters, most_digits}
use Rattle.shape.specs.Token.{Munch, Runs, Token, allowed_digits}

pub all_back : (C : ℕ → Type 0) (t : List ℕ) (b : ℕ) (r : List ℕ) → AllByRecursion C (t ++ b ∷ r) → C b
all_back C [] b r a = a.0
all_back C (x ∷ t) b r a = all_back C t b r a.1

-- one byte more of s, and what may follow
module _ (s : List ℕ) (n : ℕ) (rest : List ℕ) (l : n < length s) where
  abbrev pub Grown : List ℕ
  Grown = take (n + 1) s ++ rest

  pub grown_length : n + 1 ≤ length Grown
  grown_length = simp length-append (omega (arith, length-take-le (n + 1) s (omega arith)))

  pub grown_first : get_or Grown 0 0 ≡ get_or s 0 0
  grown_first = get_or_append_left (take (n + 1) s) rest 0 0 (omega (arith, length-take-le (n + 1) s (omega arith))) ∙ get_or-take (n + 1) s 0 0 (omega arith)

  pub grown_byte : (C : ℕ → Type 0) → AllByRecursion C Grown → C (get_or s n 0)
  grown_byte C a = all_back C (take n s) (get_or s n 0) rest (rw (take_more s n 0 l, append_assoc) at a)

-- a word
pub word_munch : (s : List ℕ) (n : ℕ) → Runs Letter most_letters s n → Munch Word s n
word_munch s n run = record { fits = run.fits; begins = begins; stops = λ l f. run.stops (omega (arith, f.1.1, grown_length s n f.0 l)) l (grown_byte s n f.0 l Letter f.1.2) }
  where
    begins : Front Word (take n s)
    begins =
        let e = length-take-le n s run.fits in
        ⊎_elim (λ (z : 0 < n). ([], rw append-nil (omega arith, omega (arith, run.few), run.all))) (λ (z : n ≤ 0). let z₁ : n ≡ 0 = omega arith in (97 ∷ [], rw z₁ (omega arith, omega arith, ((omega arith, omega arith), tt)))) (cases_lt 0 n)

pub word_is : (s : List ℕ) (n : ℕ) → Runs Letter most_letters s n → 0 < n → Word (take n s)
word_is s n run z = let e = length-take-le n s run.fits in (omega arith, omega (arith, run.few), run.all)

-- the digits of a number: `most` is 1 after a leading zero
module _ (s : List ℕ) (n most : ℕ) (run : Runs Digit most s n) (one : get_or s 0 0 ≡ 48 → most ≡ 1) (all : (get_or s 0 0 ≡ 48 → ⊥) → most ≡ most_digits) where
  long : length (take n s) ≡ n
  long = length-take-le n s run.fits

  pub unsigned_are : 0 < n → Unsigned (take n s)
  unsigned_are z =
      let small : most ≤ most_digits = ⊎_elim (λ z. omega (arith, one z)) (λ z. omega (arith, all z)) (cases_eq (get_or s 0 0) 48) in
      let l = long in
      let first = get_or-take n s 0 0 z in
      (omega arith, omega (arith, run.few), run.all, λ e. omega (arith, one (sym first ∙ e), run.few))

  pub unsigned_stop : (rest : List ℕ) → n < length s → Unsigned (take (n + 1) s ++ rest) → ⊥
  unsigned_stop rest l d =
      let few : n < most = ⊎_elim (λ z. omega (arith, one z, d.3 (grown_first s n rest l ∙ z), grown_length s n rest l)) (λ z. omega (arith, all z, d.1, grown_length s n rest l)) (cases_eq (get_or s 0 0) 48) in
      run.stops few l (grown_byte s n rest l Digit d.2)

  pub plain_munch : (0 < length s → get_or s 0 0 ≡ 45 → ⊥) → Munch Number s n
  plain_munch no' =
      record {
        fits = run.fits;
        begins = ⊎_elim (λ (z : 0 < n). ([], rw append-nil (inl (unsigned_are z)))) (λ (z : n ≤ 0). let z₁ : n ≡ 0 = omega arith in (48 ∷ [], rw z₁ (inl (omega arith, omega arith, ((omega arith, omega arith), tt), λ _. refl)))) (cases_lt 0 n);
        stops = λ l f. ⊎_elim (unsigned_stop f.0 l) (λ p. no' (omega arith) (sym (grown_first s n f.0 l) ∙ ap (λ z. get_or z 0 0) p.3)) f.1;
      }

-- a minus, and digits
pub minus_alone : Number (45 ∷ []) → ⊥
minus_alone h = ⊎_elim (λ p. omega (arith, p.2.0)) (λ p. omega (arith, p.1.0, ap length p.3)) h

module _ (s u : List ℕ) (e : s ≡ 45 ∷ u) where
  pub minus_zero : 0 < length u → get_or u 0 0 ≡ 48 → Munch Number s 1
  minus_zero l z =
      record {
        fits = rw e (omega arith);
        begins = rw e (49 ∷ [], inr (49 ∷ [], (omega arith, omega arith, ((omega arith, omega arith), tt), λ _. refl), (λ h. omega arith), refl));
        stops = λ h f.
            let g : Number (45 ∷ (take 1 u ++ f.0)) = rw e at f.1 in
            ⊎_elim (λ p. omega (arith, p.2.0)) (λ p. let q : take 1 u ++ f.0 ≡ p.0 = cc in p.2 (ap (λ y. get_or y 0 0) (sym q) ∙ grown_first u 0 f.0 l ∙ z)) g;
      }

  module _ (n : ℕ) (run : Runs Digit most_digits u n) (nz : get_or u 0 0 ≡ 48 → ⊥) where
    take_minus : take (1 + n) s ≡ 45 ∷ take n u
    take_minus = rw (e, one-add n)

    pub minus_are : 0 < n → Number (take (1 + n) s)
    minus_are z = inr (take n u, unsigned_are u n most_digits run (λ h. absurd (nz h)) (λ _. refl) z, (λ h. nz (sym (get_or-take n u 0 0 z) ∙ h)), take_minus)

    pub minus_munch : Munch Number s (1 + n)
    minus_munch =
        record {
          fits = rw e (omega (arith, run.fits));
          begins = ⊎_elim (λ (z : 0 < n). ([], rw append-nil (minus_are z))) (λ (z : n ≤ 0). let z₁ : n ≡ 0 = omega arith in (49 ∷ [], rw (take_minus, z₁) one)) (cases_lt 0 n);
          stops = λ h f.
              let k : 1 + n + 1 ≡ suc (n + 1) = omega arith in
              let g : Number (45 ∷ (take (n + 1) u ++ f.0)) = rw (e, k) at f.1 in
              let l : n < length u = omega (arith, ap length e) in
              ⊎_elim (λ p. omega (arith, p.2.0)) (λ p. let q : take (n + 1) u ++ f.0 ≡ p.0 = cc in unsigned_stop u n most_digits run (λ h. absurd (nz h)) (λ _. refl) f.0 l (rw q p.1)) g;
        }
      where
        one : Number (45 ∷ (49 ∷ []))
        one = inr (49 ∷ [], (omega arith, omega arith, ((omega arith, omega arith), tt), λ _. refl), (λ h. omega arith), refl)

most_one : (u : List ℕ) → get_or u 0 0 ≡ 48 → allowed_digits u ≡ 1
most_one u e = grind (arith, nat_tests)

most_other : (u : List ℕ) → (get_or u 0 0 ≡ 48 → ⊥) → allowed_digits u ≡ most_digits
most_other u e = grind (arith, nat_tests)

pub no_text : Number [] → ⊥
no_text h = ⊎_elim (λ p. omega (arith, p.0)) (λ p. omega (arith, ap length p.3)) h

-- what the reader of numbers answers
module _ (s : List ℕ) (n : ℕ) (run : Runs Digit (allowed_digits s) s n) (no' : 0 < length s → get_or s 0 0 ≡ 45 → ⊥) where
  pub plain_token : 0 < n → Token Number s (Ok n)
  plain_token z = (plain_munch s n _ run (most_one s) (most_other s) no', inl (unsigned_are s n _ run (most_one s) (most_other s) z))

  pub plain_none : n ≡ 0 → Token Number s (Err 0)
  plain_none z = (rw z at (plain_munch s n _ run (most_one s) (most_other s) no'), no_text)

module _ (s u : List ℕ) (e : s ≡ 45 ∷ u) where
  alone : Number (take 1 s) → ⊥
  alone = rw e minus_alone

  pub zero_token : 0 < length u → get_or u 0 0 ≡ 48 → Token Number s (Err 1)
  zero_token l z = (minus_zero s u e l z, alone)

  module _ (n : ℕ) (run : Runs Digit most_digits u n) (nz : get_or u 0 0 ≡ 48 → ⊥) where
    pub minus_token : 0 < n → Token Number s (Ok (1 + n))
    minus_token z = (minus_munch s u e n run nz, minus_are s u e n run nz z)

    pub minus_none : n ≡ 0 → Token Number s (Err 1)
    minus_none z = (rw z at (minus_munch s u e n run nz), alone)
