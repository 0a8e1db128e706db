-- Each sample of the table holds.
use Rattle.std.proofs.Common.{◌≡◌, ℕ, zero, suc, ◌^◌, ◌<◌, List, [], pos, codes, refl, arith}
use Rattle.std.specs.List.{AllByRecursion}
use Rattle.hash.specs.Nh.{keyed, group, nh}
use Rattle.hash.specs.Hash.{block_number, turn, h_of, h_at, affine}
use Rattle.hash.specs.Message.{message}
use Rattle.hs1.specs.Hs1.{subkey_nonce}
use Rattle.shape.specs.Decimal.{figures}
use Rattle.shape.specs.Form.{form, none, number, inner, WellShaped}
use Rattle.shape.proofs.Shapes.{verdict_fault}
use Rattle.shape.proofs.Signs.{digits_number}
use Rattle.shape.proofs.Steps.{digit_0}
use Rattle.patterns.specs.Finding.{numbers}
use Rattle.items.specs.ValuesLemmas.{word_from}
use Rattle.sealed.specs.Line.{header_of}
use Rattle.samples.specs.Samples.{Holds, table, zero_words, points, zeros}
use Rattle.samples.proofs.Faults.{end_fault, panel_fault, deep_fault}

-- what holds at the first four numbers holds below four
below_four : (P : ℕ → Type 0) → P 0 → P 1 → P 2 → P 3 → (i : ℕ) → i < 4 → P i
below_four P a b c d zero h = a
below_four P a b c d (suc zero) h = b
below_four P a b c d (suc (suc zero)) h = c
below_four P a b c d (suc (suc (suc zero))) h = d
below_four P a b c d (suc (suc (suc (suc i)))) h = absurd (omega arith)

-- under key words that are 0 and one number for all of kP, the four hashes of strength mid are the same
hashes_to : (kP h : ℕ) (input : List ℕ) → h_of (zeros 16) kP input ≡ h → (i : ℕ) → i < 4 → h_at zero_words (points kP) input i ≡ h
unfolding h_at
hashes_to kP h input e = below_four (λ i. h_at zero_words (points kP) input i ≡ h) e e e e

-- the line with a coordinate one past the last lawful one
past_shaped : WellShaped (codes "(cut (x 500001) (y 0))\n")
unfolding figures
past_shaped = (
  form (codes "cut") (inner (form (codes "x") (number (codes "500001") none)) (inner (form (codes "y") (number (codes "0") none)) none)),
  (omega arith, word_from (codes "cut") (omega arith) (omega arith) refl, ((omega arith, word_from (codes "x") (omega arith) (omega arith) refl, (digits_number (pos 500001) (omega arith), tt)), ((omega arith, word_from (codes "y") (omega arith) (omega arith) refl, (digit_0, tt)), tt))),
  refl,
)

-- a proof, and those after it
infixr 5 ◌&◌
◌&◌ : {A B : Type 0} → A → B → A × B
a & b = (a, b)

pub table_holds : AllByRecursion Holds table
unfolding subkey_nonce keyed group nh block_number turn h_of affine numbers figures header_of message
table_holds =
    refl
    & refl
    & refl
    & hashes_to 5 5 [] refl
    & hashes_to 3 11 (zeros 8) refl
    & hashes_to (2 ^ 59) (2 ^ 57) (zeros 128) refl
    & refl
    & verdict_fault _ 5 end_fault
    & verdict_fault _ 8 panel_fault
    & verdict_fault _ 12 deep_fault
    & (refl, refl)
    & (past_shaped, refl, ((λ _. refl), λ no'. absurd (no' past_shaped)))
    & (refl, refl)
    & tt
