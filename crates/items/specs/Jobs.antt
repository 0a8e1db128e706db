-- What the kind of jobs shows of its lines.
use Rattle.std.specs.Prelude.{◌≡◌, ℕ, ◌<◌, ◌≤◌, true, List, [], ◌∷◌, ◌++◌, length, ℤ, pos, Some, None, codes, ◌≢◌, nat_le, refl}
use Rattle.std.proofs.Common.{sym, ap, ◌∙◌, append_assoc, arith}
use Rattle.shape.specs.Decimal.{digits, InRange}
use Rattle.shape.specs.Form.{Form, Args, form, none, number, inner, written, Word, Shaped, ShapedArgs, WellShaped}
use Rattle.shape.proofs.Signs.{digits_number, length_digits}
use Rattle.patterns.specs.Pattern.{spelt, AllInRange, Makes}
use Rattle.patterns.specs.Finding.{word, numbers}
use Rattle.patterns.proofs.Numbers.{numbers_spelt, having_found, having_sound, found_answer, none_answer}
use Rattle.patterns.proofs.Spell.{in_ranges_all, width, spelt_within}
use Rattle.items.specs.declared.job.Point.{Point}
use Rattle.items.specs.declared.job.JobItem.{JobItem}
use Rattle.items.specs.declared.job.JobItem.TheVariants.{Panel, Move, Cut, Mark, Arc, End}
use Rattle.items.specs.Job.{job_pattern, job_values, job_ranges, job_lawful, job_line, job_named, job_reading, coordinates}
use Rattle.items.specs.ValuesLemmas.{word_from}

-- a form with one number, and the two that make a point
abbrev single : List ℕ → ℤ → Form
single w v = form w (number (digits v) none)

abbrev point_args : Point → Args
point_args p = inner (single (codes "x") p.x) (inner (single (codes "y") p.y) none)

single_shaped : (d : ℕ) (w : List ℕ) (v : ℤ) → 0 < d → Word w → InRange v → Shaped d (single w v)
single_shaped d w v h k i = (h, k, (digits_number v i, tt))

letter : (b : ℕ) → 97 ≤ b → b ≤ 122 → Word (b ∷ [])
letter b h k = (omega arith, omega arith, ((h, k), tt))

point_shaped : (d : ℕ) (p : Point) → 0 < d → InRange p.x → InRange p.y → ShapedArgs d (point_args p)
point_shaped d p h i j = (single_shaped d (codes "x") p.x h (letter 120 (omega arith) (omega arith)) i, (single_shaped d (codes "y") p.y h (letter 121 (omega arith) (omega arith)) j, tt))

-- how the lines are written, for any digits
panel_written : (a b : List ℕ) → codes "(panel " ++ (a ++ (codes " (cloth " ++ (b ++ codes "))\n"))) ≡ written (form (codes "panel") (number a (inner (form (codes "cloth") (number b none)) none))) ++ 10 ∷ []
panel_written a b = simp append_assoc

abbrev two_forms : (a b : List ℕ) → Args
two_forms a b = inner (form (codes "x") (number a none)) (inner (form (codes "y") (number b none)) none)

point_written : (w a b : List ℕ) → 40 ∷ (w ++ (codes " (x " ++ (a ++ (codes ") (y " ++ (b ++ codes "))\n"))))) ≡ written (form w (two_forms a b)) ++ 10 ∷ []
point_written w a b = simp append_assoc

arc_written : (a b c d : List ℕ) → codes "(arc (via (x " ++ (a ++ (codes ") (y " ++ (b ++ (codes ")) (to (x " ++ (c ++ (codes ") (y " ++ (d ++ codes ")))\n"))))))) ≡ written (form (codes "arc") (inner (form (codes "via") (two_forms a b)) (inner (form (codes "to") (two_forms c d)) none))) ++ 10 ∷ []
arc_written a b c d = simp append_assoc

-- a line with one point
point_line : (w : List ℕ) (p : Point) (l : List ℕ) → Word w → AllInRange (p.x ∷ p.y ∷ []) → l ≡ 40 ∷ (w ++ (codes " (x " ++ (digits p.x ++ (codes ") (y " ++ (digits p.y ++ codes "))\n"))))) → WellShaped l
point_line w p l k a e = (form w (point_args p), (omega arith, k, point_shaped 3 p (omega arith) a.0 a.1.0), e ∙ point_written w (digits p.x) (digits p.y))

values_of : (x : JobItem) → job_lawful x ≡ true → AllInRange (job_values x)
values_of x h = (in_ranges_all (job_ranges x) (job_values x) h).0

pub job_shaped : (x : JobItem) → job_lawful x ≡ true → WellShaped (job_line x)
job_shaped (Panel n c) h =
    let a = values_of (Panel n c) h in (
      form (codes "panel") (number (digits (pos n)) (inner (single (codes "cloth") (pos c)) none)),
      (omega arith, word_from (codes "panel") (omega arith) (omega arith) refl, (digits_number (pos n) a.0, (single_shaped 3 (codes "cloth") (pos c) (omega arith) (word_from (codes "cloth") (omega arith) (omega arith) refl) a.1.0, tt))),
      panel_written (digits (pos n)) (digits (pos c)),
    )
job_shaped (Move p) h = point_line (codes "move") p (job_line (Move p)) (word_from (codes "move") (omega arith) (omega arith) refl) (values_of (Move p) h) refl
job_shaped (Cut p) h = point_line (codes "cut") p (job_line (Cut p)) (word_from (codes "cut") (omega arith) (omega arith) refl) (values_of (Cut p) h) refl
job_shaped (Mark p) h = point_line (codes "mark") p (job_line (Mark p)) (word_from (codes "mark") (omega arith) (omega arith) refl) (values_of (Mark p) h) refl
job_shaped (Arc v t) h =
    let a = values_of (Arc v t) h in (
      form (codes "arc") (inner (form (codes "via") (point_args v)) (inner (form (codes "to") (point_args t)) none)),
      (
        omega arith,
        word_from (codes "arc") (omega arith) (omega arith) refl,
        (
          (omega arith, word_from (codes "via") (omega arith) (omega arith) refl, point_shaped 2 v (omega arith) a.0 a.1.0),
          ((omega arith, word_from (codes "to") (omega arith) (omega arith) refl, point_shaped 2 t (omega arith) a.1.1.0 a.1.1.1.0), tt),
        ),
      ),
      arc_written (digits v.x) (digits v.y) (digits t.x) (digits t.y),
    )
job_shaped End h = (form (codes "end") none, (omega arith, word_from (codes "end") (omega arith) (omega arith) refl, tt), refl)

-- no number has more than seven bytes
point_width : (q : List ℕ) (p : Point) → AllInRange (p.x ∷ p.y ∷ []) → nat_le (width q (7 ∷ 7 ∷ [])) 65 ≡ true → length (spelt q (p.x ∷ p.y ∷ [])) ≤ 65
point_width q p a h = spelt_within q (p.x ∷ p.y ∷ []) (7 ∷ 7 ∷ []) 65 (length_digits p.x a.0, (length_digits p.y a.1.0, tt)) h

pub job_bounded : (x : JobItem) → job_lawful x ≡ true → length (job_line x) ≤ 65
job_bounded (Panel n c) h = let a = values_of (Panel n c) h in spelt_within (job_pattern (Panel n c)) (pos n ∷ pos c ∷ []) (7 ∷ 7 ∷ []) 65 (length_digits (pos n) a.0, (length_digits (pos c) a.1.0, tt)) refl
job_bounded (Move p) h = point_width (job_pattern (Move p)) p (values_of (Move p) h) refl
job_bounded (Cut p) h = point_width (job_pattern (Cut p)) p (values_of (Cut p) h) refl
job_bounded (Mark p) h = point_width (job_pattern (Mark p)) p (values_of (Mark p) h) refl
job_bounded (Arc v t) h =
    let a = values_of (Arc v t) h in
    spelt_within (job_pattern (Arc v t)) (job_values (Arc v t)) (7 ∷ 7 ∷ 7 ∷ 7 ∷ []) 65 (length_digits v.x a.0, (length_digits v.y a.1.0, (length_digits t.x a.1.1.0, (length_digits t.y a.1.1.1.0, tt)))) refl
job_bounded End h = spelt_within (job_pattern End) [] [] 65 tt refl

-- the word and the numbers of a line name its item
named : (x : JobItem) → job_lawful x ≡ true → job_named (word (job_line x)) (numbers (job_line x)) ≡ Some x
named (Panel n c) h = ap (job_named (codes "panel")) (numbers_spelt (job_pattern (Panel n c)) (job_ranges (Panel n c)) (job_values (Panel n c)) refl h)
named (Move p) h = ap (job_named (codes "move")) (numbers_spelt (job_pattern (Move p)) (job_ranges (Move p)) (job_values (Move p)) refl h)
named (Cut p) h = ap (job_named (codes "cut")) (numbers_spelt (job_pattern (Cut p)) (job_ranges (Cut p)) (job_values (Cut p)) refl h)
named (Mark p) h = ap (job_named (codes "mark")) (numbers_spelt (job_pattern (Mark p)) (job_ranges (Mark p)) (job_values (Mark p)) refl h)
named (Arc v t) h = ap (job_named (codes "arc")) (numbers_spelt (job_pattern (Arc v t)) (job_ranges (Arc v t)) (job_values (Arc v t)) refl h)
named End h = refl

pub job_found : (x : JobItem) → job_lawful x ≡ true → job_reading (job_line x) ≡ Some x
job_found x h = having_found job_lawful job_line (job_named (word (job_line x)) (numbers (job_line x))) x h (named x h)

pub job_sound : (l : List ℕ) (x : JobItem) → job_reading l ≡ Some x → (job_lawful x ≡ true) × (job_line x ≡ l)
job_sound l x e = having_sound job_lawful job_line l (job_named (word l) (numbers l)) x e

-- what the reader answers
pub job_answer : (l : List ℕ) (x : JobItem) → (job_lawful x ≡ true) × (job_line x ≡ l) → Some x ≡ job_reading l
job_answer l x p = found_answer job_lawful job_line job_reading job_found l x p.0 p.1

-- no line of this pattern with a point
abbrev pub NoPoint : List ℕ → List ℕ → Type 0
NoPoint q l = (p : Point) → Makes q (coordinates ∷ coordinates ∷ []) l (p.x ∷ p.y ∷ []) → ⊥

pub no_job : (l : List ℕ) → ((n c : ℕ) → job_lawful (Panel n c) ≡ true → job_line (Panel n c) ≢ l) → NoPoint (codes "(move (x #) (y #))\n") l → NoPoint (codes "(cut (x #) (y #))\n") l → NoPoint (codes "(mark (x #) (y #))\n") l → ((v t : Point) → job_lawful (Arc v t) ≡ true → job_line (Arc v t) ≢ l) → (l ≢ codes "(end)\n") → None ≡ job_reading l
no_job l panel move cut mark arc end = none_answer job_lawful job_line job_reading job_sound l none'
  where
    none' : (x : JobItem) → job_lawful x ≡ true → job_line x ≢ l
    none' (Panel n c) h e = panel n c h e
    none' (Move p) h e = move p (h, e)
    none' (Cut p) h e = cut p (h, e)
    none' (Mark p) h e = mark p (h, e)
    none' (Arc v t) h e = arc v t h e
    none' End h e = end (sym e)
