-- What the kind of settings shows of its lines.
use Rattle.std.specs.Prelude.{◌≡◌, ℕ, ◌≤◌, true, List, [], ◌∷◌, ◌++◌, length, ℤ, pos, Some, None, codes, ◌≢◌, unsigned_abs, refl}
use Rattle.std.proofs.Common.{ap, ◌∙◌, ⊎_elim, append_assoc, arith}
use Rattle.shape.specs.Decimal.{digits, InRange}
use Rattle.shape.specs.Form.{form, none, number, inner, written, Word, WellShaped}
use Rattle.shape.proofs.Figures.{length_figures}
use Rattle.shape.proofs.Signs.{digits_number, length_digits}
use Rattle.patterns.specs.Pattern.{within, AllInRange, Makes}
use Rattle.patterns.specs.declared.Range.{Range}
use Rattle.patterns.specs.Finding.{word, numbers}
use Rattle.patterns.proofs.Numbers.{numbers_spelt, having_found, having_sound, found_answer, none_answer}
use Rattle.patterns.proofs.Spell.{in_ranges_all, spelt_within, within_in_range}
use Rattle.items.specs.declared.setting.SettingItem.{SettingItem}
use Rattle.items.specs.declared.setting.SettingItem.TheVariants.{Speed, Press, Tool}
use Rattle.items.specs.Setting.{setting_pattern, setting_values, setting_ranges, setting_lawful, setting_line, setting_named, setting_reading, tool_numbers, offsets, speeds, pressures}
use Rattle.items.specs.ValuesLemmas.{value_first, whole_number, at_most, word_from, short_digits, near_zero}

-- how the lines are written, for any digits
lone_written : (w a : List ℕ) → 40 ∷ (w ++ (32 ∷ (a ++ codes ")\n"))) ≡ written (form w (number a none)) ++ 10 ∷ []
lone_written w a = simp append_assoc

tool_written : (a b : List ℕ) → codes "(tool " ++ (a ++ (codes " (offset " ++ (b ++ codes "))\n"))) ≡ written (form (codes "tool") (number a (inner (form (codes "offset") (number b none)) none))) ++ 10 ∷ []
tool_written a b = simp append_assoc

-- a line with one number
lone_line : (w : List ℕ) (v : ℤ) (l : List ℕ) → Word w → InRange v → l ≡ 40 ∷ (w ++ (32 ∷ (digits v ++ codes ")\n"))) → WellShaped l
lone_line w v l k i e = (form w (number (digits v) none), (omega arith, k, (digits_number v i, tt)), e ∙ lone_written w (digits v))

values_of : (x : SettingItem) → setting_lawful x ≡ true → AllInRange (setting_values x)
values_of x h = (in_ranges_all (setting_ranges x) (setting_values x) h).0

pub setting_shaped : (x : SettingItem) → setting_lawful x ≡ true → WellShaped (setting_line x)
setting_shaped (Speed v) h = lone_line (codes "speed") (pos v) (setting_line (Speed v)) (word_from (codes "speed") (omega arith) (omega arith) refl) (values_of (Speed v) h).0 refl
setting_shaped (Press v) h = lone_line (codes "press") (pos v) (setting_line (Press v)) (word_from (codes "press") (omega arith) (omega arith) refl) (values_of (Press v) h).0 refl
setting_shaped (Tool n o) h =
    let a = values_of (Tool n o) h in (
      form (codes "tool") (number (digits (pos n)) (inner (form (codes "offset") (number (digits o) none)) none)),
      (omega arith, word_from (codes "tool") (omega arith) (omega arith) refl, (digits_number (pos n) a.0, ((omega arith, word_from (codes "offset") (omega arith) (omega arith) refl, (digits_number o a.1.0, tt)), tt))),
      tool_written (digits (pos n)) (digits o),
    )

tool_short : (n : ℕ) → within tool_numbers (pos n) ≡ true → length (digits (pos n)) ≤ 1
tool_short n w = length_figures 1 n (omega arith) (omega (arith, at_most (pos n) 8 refl (whole_number tool_numbers (pos n) refl w).1)) (omega (arith, at_most (pos n) 8 refl (whole_number tool_numbers (pos n) refl w).1))

offset_short : (o : ℤ) → within offsets o ≡ true → length (digits o) ≤ 4
offset_short o w =
    let small : unsigned_abs o ≤ 999 = ⊎_elim (λ l. l) (λ l. l) (near_zero 998 999 o w) in
    short_digits 3 o (omega arith) (omega arith) (within_in_range offsets o w)

pub setting_bounded : (x : SettingItem) → setting_lawful x ≡ true → length (setting_line x) ≤ 23
setting_bounded (Speed v) h = spelt_within (setting_pattern (Speed v)) (pos v ∷ []) (7 ∷ []) 23 (length_digits (pos v) (values_of (Speed v) h).0, tt) refl
setting_bounded (Press v) h = spelt_within (setting_pattern (Press v)) (pos v ∷ []) (7 ∷ []) 23 (length_digits (pos v) (values_of (Press v) h).0, tt) refl
setting_bounded (Tool n o) h =
    let a = values_of (Tool n o) h in
    let q = value_first tool_numbers (offsets ∷ []) (pos n) (o ∷ []) h in
    spelt_within (setting_pattern (Tool n o)) (pos n ∷ o ∷ []) (1 ∷ 4 ∷ []) 23 (tool_short n q.0, (offset_short o (value_first offsets [] o [] q.1).0, tt)) refl

-- the word and the numbers of a line name its item
named : (x : SettingItem) → setting_lawful x ≡ true → setting_named (word (setting_line x)) (numbers (setting_line x)) ≡ Some x
named (Speed v) h = ap (setting_named (codes "speed")) (numbers_spelt (setting_pattern (Speed v)) (setting_ranges (Speed v)) (setting_values (Speed v)) refl h)
named (Press v) h = ap (setting_named (codes "press")) (numbers_spelt (setting_pattern (Press v)) (setting_ranges (Press v)) (setting_values (Press v)) refl h)
named (Tool n o) h = ap (setting_named (codes "tool")) (numbers_spelt (setting_pattern (Tool n o)) (setting_ranges (Tool n o)) (setting_values (Tool n o)) refl h)

pub setting_found : (x : SettingItem) → setting_lawful x ≡ true → setting_reading (setting_line x) ≡ Some x
setting_found x h = having_found setting_lawful setting_line (setting_named (word (setting_line x)) (numbers (setting_line x))) x h (named x h)

pub setting_sound : (l : List ℕ) (x : SettingItem) → setting_reading l ≡ Some x → (setting_lawful x ≡ true) × (setting_line x ≡ l)
setting_sound l x e = having_sound setting_lawful setting_line l (setting_named (word l) (numbers l)) x e

-- what the reader answers
pub setting_answer : (l : List ℕ) (x : SettingItem) → (setting_lawful x ≡ true) × (setting_line x ≡ l) → Some x ≡ setting_reading l
setting_answer l x p = found_answer setting_lawful setting_line setting_reading setting_found l x p.0 p.1

-- no line of this pattern with one number
abbrev pub NoLone : List ℕ → Range → List ℕ → Type 0
NoLone q r l = (n : ℕ) → Makes q (r ∷ []) l (pos n ∷ []) → ⊥

pub no_setting : (l : List ℕ) → NoLone (codes "(speed #)\n") speeds l → NoLone (codes "(press #)\n") pressures l → ((n : ℕ) (o : ℤ) → setting_lawful (Tool n o) ≡ true → setting_line (Tool n o) ≢ l) → None ≡ setting_reading l
no_setting l speed press tool = none_answer setting_lawful setting_line setting_reading setting_sound l none'
  where
    none' : (x : SettingItem) → setting_lawful x ≡ true → setting_line x ≢ l
    none' (Speed v) h e = speed v (h, e)
    none' (Press v) h e = press v (h, e)
    none' (Tool n o) h e = tool n o h e
