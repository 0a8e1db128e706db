-- Cutting a text into lines.
use Rattle.std.proofs.Common.{◌≡◌, ℕ, ◌+◌, ◌-◌, ◌<◌, ◌≤◌, eqb, List, [], ◌∷◌, ◌++◌, length, get_or, take, drop, sym, refl, ap, ap₂, subst, min, ◌==◌, ◌∙◌, ⊎_elim, append_assoc, arith}
use Rattle.std.specs.List.{flat_map, AllByRecursion}
use Rattle.std.proofs.ByRecursion.{All-from_get_or, All-append, All-weaker}
use Rattle.std.proofs.lemmas.List.{take-append-drop, length-take-le, get_or-take, drop_more, take_more, take_all, drop_all, take_at, take_rest}
use Rattle.std.proofs.lemmas.Bool.{cond-true, cond-false, ne_eqb, eqb-true, eqb-false, cases_lt, cases_Bool}
use Rattle.shape.specs.Form.{Form, Args, form, none, number, inner, written, closed, Letter, Digit, Unsigned, Number, Shaped, ShapedArgs, WellShaped}
use Rattle.shape.specs.Limits.{deepest}
use Rattle.std.specs.List.{IsFirstMatchOrLen}
use Rattle.std.proofs.Math.Nat.{min-eq_left, min-eq_right}
use Rattle.kinds.specs.Text.{onto, lines, FirstLine, NextLine}

-- any byte but a line end
abbrev pub Inner : ℕ → Type 0
Inner b = b ≡ 10 → ⊥

inner_goes : (b : ℕ) (t : List ℕ) → Inner b → lines (b ∷ t) ≡ onto b (lines t)
inner_goes b t h = cond-false (eqb b 10) _ _ (ne_eqb b 10 h)

pub lines_whole : (l rest : List ℕ) → AllByRecursion Inner l → lines (l ++ 10 ∷ rest) ≡ (l ++ 10 ∷ []) ∷ lines rest
lines_whole [] rest a = refl
lines_whole (b ∷ l) rest a = inner_goes b (l ++ 10 ∷ rest) a.0 ∙ ap (onto b) (lines_whole l rest a.1)

lines_last : (b : ℕ) (l : List ℕ) → AllByRecursion Inner (b ∷ l) → lines (b ∷ l) ≡ (b ∷ l) ∷ []
lines_last b [] a = inner_goes b [] a.0
lines_last b (x ∷ l) a = inner_goes b (x ∷ l) a.0 ∙ ap (onto b) (lines_last x l a.1)

-- the line at the front of a text, up to its first line end
first_whole : (t : List ℕ) (n : ℕ) → n < length t → get_or t n 0 ≡ 10 → ((k : ℕ) → k < n → get_or t k 0 ≡ 10 → ⊥) → lines t ≡ take (n + 1) t ∷ lines (drop (n + 1) t)
first_whole t n l e none' =
    let a : AllByRecursion Inner (take n t) = All-from_get_or Inner (take n t) 0 (λ i h. let k : i < n = omega (arith, length-take-le n t (omega arith)) in λ z. none' i k (sym (get_or-take n t i 0 k) ∙ z)) in
    let d : drop n t ≡ 10 ∷ drop (n + 1) t = drop_more t n 0 l ∙ ap (λ z. z ∷ drop (n + 1) t) e in
    let f : take (n + 1) t ≡ take n t ++ 10 ∷ [] = take_more t n 0 l ∙ ap (λ z. take n t ++ z ∷ []) e in
    ap lines (sym (take-append-drop n t) ∙ ap (λ z. take n t ++ z) d) ∙ lines_whole (take n t) (drop (n + 1) t) a ∙ ap (λ z. z ∷ lines (drop (n + 1) t)) (sym f)

-- all of a text that has no line end
first_last : (t : List ℕ) → 0 < length t → ((k : ℕ) → k < length t → get_or t k 0 ≡ 10 → ⊥) → lines t ≡ t ∷ []
first_last [] l none' = absurd (omega arith)
first_last (b ∷ t) l none' = lines_last b t (All-from_get_or Inner (b ∷ t) 0 none')

last_cut : (t : List ℕ) → 0 < length t → ((k : ℕ) → k < length t → get_or t k 0 ≡ 10 → ⊥) → lines t ≡ take (length t) t ∷ lines (drop (length t) t)
last_cut t l none' = first_last t l none' ∙ ap (λ z. z ∷ []) (sym (take_all (length t) t (omega arith))) ∙ ap (λ z. take (length t) t ∷ lines z) (sym (drop_all (length t) t (omega arith)))

-- the piece at the front of a text, up to and with the first line end, is its first line
pub first_line : (t : List ℕ) (i : ℕ) → IsFirstMatchOrLen (λ b. b == 10) t i → FirstLine t (min (i + 1) (length t))
first_line t i m = ⊎_elim whole last (cases_lt i (length t))
  where
    other : (k : ℕ) → k < i → get_or t k 0 ≡ 10 → ⊥
    other k h = eqb-false (get_or t k 0) 10 (m.0 k 0 (omega arith) h)

    whole : i < length t → FirstLine t (min (i + 1) (length t))
    whole h = let e : min (i + 1) (length t) ≡ i + 1 = min-eq_left (omega arith) in rw e (omega arith, λ _. (omega arith, first_whole t i h (eqb-true (get_or t i 0) 10 (m.1 h 0)) other))

    last : length t ≤ i → FirstLine t (min (i + 1) (length t))
    last h = let e : min (i + 1) (length t) ≡ length t = min-eq_right (omega arith) in rw e (omega arith, λ s. (s, last_cut t s (λ k l. other k (omega arith))))

pub first_piece : (t x rest : List ℕ) (i : ℕ) → t ≡ x ++ rest → length x ≡ min (i + 1) (length t) → IsFirstMatchOrLen (λ b. b == 10) t i → 0 < length t → NextLine t 0 x
first_piece t x rest i e n m some =
    let f = subst (λ k. FirstLine t k) (sym n) (first_line t i m) in
    let s = f.1 some in
    record { some = s.0; fits = omega (arith, f.0); cut = s.1 ∙ ap₂ (λ y k. y ∷ lines (drop k t)) (ap (take (length x)) e ∙ take_at x rest (length x) refl) (omega arith) }

-- the same of a text that the code has by another name, and of the rest as the code cuts it off
pub piece_cut : (t s x : List ℕ) → s ≡ t → NextLine s 0 x → lines t ≡ x ∷ lines (take (length t - length x) (drop (length x) t))
piece_cut t s x is n = subst (λ y. lines y ≡ x ∷ lines (take (length y - length x) (drop (length x) y))) is (n.cut ∙ ap (λ z. x ∷ lines z) (ap (λ k. drop k s) (omega arith) ∙ sym (take_rest s (length x))))

-- a text that is not empty has a line
onto_some : (b : ℕ) (ls : List (List ℕ)) → 0 < length (onto b ls)
onto_some b [] = omega arith
onto_some b (l ∷ ls) = omega arith

pub lines_some : (t : List ℕ) → 0 < length t → 0 < length (lines t)
lines_some [] h = absurd (omega arith)
lines_some (b ∷ t) h = ⊎_elim (λ e. rw (cond-true (eqb b 10) ((b ∷ []) ∷ lines t) (onto b (lines t)) e) (omega arith)) (λ e. rw (cond-false (eqb b 10) ((b ∷ []) ∷ lines t) (onto b (lines t)) e) (onto_some b (lines t))) (cases_Bool (eqb b 10))

pub lines_none : (t : List ℕ) → length t ≡ 0 → lines t ≡ []
lines_none [] h = refl
lines_none (b ∷ t) h = absurd (omega (arith, h))

-- the lines joined are the text
onto_joins : (b : ℕ) (ls : List (List ℕ)) → flat_map (λ l. l) (onto b ls) ≡ b ∷ flat_map (λ l. l) ls
onto_joins b [] = refl
onto_joins b (l ∷ ls) = refl

pub lines_join : (t : List ℕ) → flat_map (λ l. l) (lines t) ≡ t
lines_join [] = refl
lines_join (b ∷ t) =
    ⊎_elim (λ e. ap (λ ls. flat_map (λ l. l) ls) (cond-true (eqb b 10) _ _ e) ∙ ap (λ z. b ∷ z) (lines_join t))
    (λ e. ap (λ ls. flat_map (λ l. l) ls) (cond-false (eqb b 10) _ _ e) ∙ onto_joins b (lines t) ∙ ap (λ z. b ∷ z) (lines_join t)) (cases_Bool (eqb b 10))

-- a form has no line end
digits_inner : (t : List ℕ) → Unsigned t → AllByRecursion Inner t
digits_inner t u = All-weaker Digit Inner (λ b h e. omega arith) t u.2

number_inner : (t : List ℕ) → Number t → AllByRecursion Inner t
number_inner t n = ⊎_elim (digits_inner t) (λ q. rw q.3 ((λ e. omega arith), digits_inner q.0 q.1)) n

mutual
  form_inner : (d : ℕ) (f : Form) → Shaped d f → AllByRecursion Inner (written f)
  form_inner d (form w a) s = ((λ e. omega arith), All-append Inner w (closed a) (All-weaker Letter Inner (λ b h e. omega arith) w s.1.2) (args_inner (d - 1) a s.2))

  args_inner : (d : ℕ) (a : Args) → ShapedArgs d a → AllByRecursion Inner (closed a)
  args_inner d none s = ((λ e. omega arith), tt)
  args_inner d (number t a) s = ((λ e. omega arith), All-append Inner t (closed a) (number_inner t s.0) (args_inner d a s.1))
  args_inner d (inner f a) s = ((λ e. omega arith), All-append Inner (written f) (closed a) (form_inner d f s.0) (args_inner d a s.1))

-- a well-shaped line at the front of a text is its first line
pub shaped_first : (l rest : List ℕ) → WellShaped l → lines (l ++ rest) ≡ l ∷ lines rest
shaped_first l rest w =
    let f = written w.0 in
    let e : l ++ rest ≡ f ++ 10 ∷ rest = ap (λ z. z ++ rest) w.2 ∙ append_assoc f (10 ∷ []) rest in
    ap lines e ∙ lines_whole f rest (form_inner deepest w.0 w.1) ∙ ap (λ z. z ∷ lines rest) (sym w.2)
