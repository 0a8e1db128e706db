-- Lines that are not well shaped: the steps by which their reader comes to the fault.
use Rattle.std.proofs.Common.{◌≡◌, ℕ, ◌+◌, ◌-◌, ◌<◌, true, false, List, [], ◌∷◌, ◌++◌, length, take, Err, codes, refl, arith, length-append}
use Rattle.std.proofs.lemmas.List.{take_at, drop_at, get_or_at}
use Rattle.std.proofs.lemmas.Bool.Decides.{nat_tests}
use Rattle.shape.specs.Form.{Letter, Digit, Word, Number, Forms, Tails}
use Rattle.shape.specs.Limits.{most_letters, deepest}
use Rattle.shape.specs.Outcome.{Fault}
use Rattle.shape.specs.Token.{Munch, Runs}
use Rattle.shape.proofs.Numbers.{word_munch, plain_token, plain_none}
use Rattle.shape.proofs.Steps.{letter_a, digit_0, args_number, args_fault, args_deep, args_other, form_other, form_goes}
use Rattle.patterns.specs.Pattern.{figure}
use Rattle.items.specs.ValuesLemmas.{lettered, word_from}

-- a byte that begins no number
no_number : (b : ℕ) (x : List ℕ) → figure b ≡ false → Munch Number (b ∷ x) 0
no_number b x h =
    let digit : Digit b → ⊥ = λ c. grind (arith, nat_tests) in
    let minus : b ≡ 45 → ⊥ = λ e. grind (arith, nat_tests) in
    (plain_none (b ∷ x) 0 (record { fits = omega arith; few = omega arith; all = tt; stops = λ _ _ c. digit c }) (λ _ e. minus e) refl).0

-- "(", a word and a space: the fault stands from the space on
after_word : (d : ℕ) (w x : List ℕ) → 0 < d → Word w → (n : ℕ) → Fault (Tails (d - 1)) (32 ∷ x) n → Fault (Forms d) (40 ∷ (w ++ 32 ∷ x)) (1 + (length w + n))
after_word d w x deep is n o =
    let u = w ++ 32 ∷ x in
    let e : take (length w) u ≡ w = take_at w (32 ∷ x) (length w) refl in
    let run : Runs Letter most_letters u (length w) = record {
      fits = simp length-append (omega arith);
      few = is.1;
      all = rw e is.2;
      stops = λ _ _ c. let z : Letter 32 = rw (get_or_at w 32 x 0 (length w) refl) at c in omega arith;
    } in
    form_goes d deep (40 ∷ u) u refl (length w) (word_munch u (length w) run) (rw e is) (Err n) (rw (drop_at w (32 ∷ x) (length w) refl) o)

-- a space and "(": the fault stands in the form
in_form : (d n : ℕ) (x : List ℕ) → Fault (Forms d) (40 ∷ x) n → Fault (Tails d) (32 ∷ (40 ∷ x)) (1 + n)
in_form d n x o = args_fault d (32 ∷ (40 ∷ x)) (40 ∷ x) refl (no_number 40 x refl) n o

-- neither a number nor a form after the space
pub end_fault : Fault (Forms deepest) (codes "(end )\n") 5
end_fault =
    after_word 4 (codes "end") _ (omega arith) (word_from (codes "end") (omega arith) (omega arith) refl) 1
    (args_fault 3 _ _ refl (no_number 41 _ refl) 0 (form_other 3 (omega arith) _ _ 41 refl (λ e. omega arith)))

-- a digit after a leading zero
pub panel_fault : Fault (Forms deepest) (codes "(panel 07 (cloth 2))\n") 8
panel_fault =
    let u = codes "07 (cloth 2))\n" in
    let run : Runs Digit 1 u 1 = record { fits = omega arith; few = omega arith; all = ((omega arith, omega arith), tt); stops = λ z _ _. omega arith } in
    after_word 4 (codes "panel") u (omega arith) (word_from (codes "panel") (omega arith) (omega arith) refl) 2
    (args_number 3 (32 ∷ u) u refl 1 (plain_token u 1 run (λ _ e. omega arith) (omega arith)).0 digit_0 (Err 0)
    (args_other 3 _ _ 55 refl (λ e. omega arith) (λ e. omega arith)))

-- a space, "(", a letter and a space: the fault stands from the second space on
deeper : (d b : ℕ) (x : List ℕ) → 0 < d → lettered (b ∷ []) ≡ true → (n : ℕ) → Fault (Tails (d - 1)) (32 ∷ x) n → Fault (Tails d) (32 ∷ (40 ∷ (b ∷ (32 ∷ x)))) (1 + (1 + (1 + n)))
deeper d b x deep l n o = in_form d (1 + (1 + n)) (b ∷ (32 ∷ x)) (after_word d (b ∷ []) x deep (word_from (b ∷ []) (omega arith) (omega arith) l) n o)

-- a fifth form, one inside the other
pub deep_fault : Fault (Forms deepest) (codes "(a (b (c (d (e)))))\n") 12
deep_fault =
    after_word 4 (codes "a") _ (omega arith) letter_a 10
    (deeper 3 98 _ (omega arith) refl 7 (deeper 2 99 _ (omega arith) refl 4 (deeper 1 100 _ (omega arith) refl 1
    (args_deep 0 _ _ refl (no_number 40 _ refl) refl))))
