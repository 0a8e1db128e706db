-- The values that make a line, found byte by byte of the pattern.
use Rattle.std.proofs.Common.{◌≡◌, ℕ, ◌+◌, ◌<◌, ◌≤◌, Bool, true, false, cond, not, ◌&&◌, eqb, ltb, leb, List, [], ◌∷◌, ◌++◌, length, get_or, take, drop, set, ℤ, Some, None, Option, MatchOption, is_some, sym, refl, ap, ◌∙◌, subst, ap₂, append_assoc, arith}
use Rattle.std.proofs.lemmas.List.{append-nil, drop_more, drop_all, drop_at, take_all, take-append-drop, take_more_set}
use Rattle.std.proofs.lemmas.Bool.{cond-true, cond-false, eq-eqb, ne_eqb, and_parts, and_from, both_ways, not-true, eqb-true, eqb-false, ltb-true, le-leb, or_right, false≢true}
use Rattle.shape.specs.declared.value.Leading.{Leading}
use Rattle.shape.specs.Decimal.{digits, InRange, LongestNumber, LeadsNumber}
use Rattle.shape.specs.Form.{Digit}
use Rattle.shape.proofs.Fronts.{leading_found, leading_some}
use Rattle.patterns.specs.declared.Range.{Range}
use Rattle.patterns.specs.Pattern.{spelt, within, in_ranges, Makes, figure, fitting, ReadsPattern}
use Rattle.std.specs.Bool.{then_some}
use Rattle.patterns.specs.Steps.{NextValue}
use Rattle.patterns.proofs.Spell.{spelt_byte, within_in_range}

pub digit_figure : (b : ℕ) → Digit b → figure b ≡ true
digit_figure b d = or_right (eqb b 45) (leb 48 b && leb b 57) (and_from (leb 48 b) (leb b 57) (le-leb 48 b d.0) (le-leb b 57 d.1))

-- the parts of a fitting pattern
pub fitting_number : (b : ℕ) (p : List ℕ) (rs : List Range) → b ≡ 35 → fitting (b ∷ p) rs ≡ true → (0 < length rs) × (get_or p 0 0 ≡ 35 → ⊥) × (fitting p (drop 1 rs) ≡ true)
fitting_number b p rs e f =
    let t = eq-eqb b 35 e in
    let first = ltb 0 (length rs) && not (eqb (get_or p 0 0) 35) in
    let q = and_parts (cond (eqb b 35) first (not (figure b))) (fitting p (cond (eqb b 35) (drop 1 rs) rs)) f in
    let s = and_parts (ltb 0 (length rs)) (not (eqb (get_or p 0 0) 35)) (sym (cond-true (eqb b 35) first (not (figure b)) t) ∙ q.0) in
    (ltb-true 0 (length rs) s.0, eqb-false (get_or p 0 0) 35 (not-true (eqb (get_or p 0 0) 35) s.1), ap (fitting p) (sym (cond-true (eqb b 35) (drop 1 rs) rs t)) ∙ q.1)

pub fitting_byte : (b : ℕ) (p : List ℕ) (rs : List Range) → (b ≡ 35 → ⊥) → fitting (b ∷ p) rs ≡ true → (figure b ≡ false) × (fitting p rs ≡ true)
fitting_byte b p rs e f =
    let t = ne_eqb b 35 e in
    let first = ltb 0 (length rs) && not (eqb (get_or p 0 0) 35) in
    let q = and_parts (cond (eqb b 35) first (not (figure b))) (fitting p (cond (eqb b 35) (drop 1 rs) rs)) f in
    (not-true (figure b) (sym (cond-false (eqb b 35) first (not (figure b)) t) ∙ q.0), ap (fitting p) (sym (cond-false (eqb b 35) (drop 1 rs) rs t)) ∙ q.1)

-- no digit follows a number
spelt_ends : (p : List ℕ) (rs : List Range) (vs : List ℤ) → (get_or p 0 0 ≡ 35 → ⊥) → fitting p rs ≡ true → Digit (get_or (spelt p vs) 0 0) → ⊥
spelt_ends [] rs vs e f d = omega (arith, d.0)
spelt_ends (b ∷ p) rs vs e f d =
    let d' : Digit b = subst (λ z. Digit (get_or z 0 0)) (spelt_byte b p vs e) d in
    both_ways (figure b) (fitting_byte b p rs e f).0 (digit_figure b d')

-- the reader of one number
next_none : (rs : List Range) (l : List ℕ) → LeadsNumber l None → NextValue rs l None
next_none rs l o r rest v k e w cut ends = leading_some l v k (within_in_range r v w) cut ends o

next_other : (rs : List Range) (l : List ℕ) (x : Leading ℤ) → LongestNumber l x.value x.len → ((r : Range) (rest : List Range) → rs ≡ r ∷ rest → within r x.value ≡ false) → NextValue rs l None
next_other rs l x o no' r rest v k e w cut ends =
    let y = (leading_found l v k (within_in_range r v w) cut ends x.value x.len o).1 in
    both_ways (within r v) (ap (within r) (sym y) ∙ no' r rest e) w

-- what is left of the number at the front by a test of its value
pub next_tested : (r : Range) (l : List ℕ) (o kept : Option (Leading ℤ)) (Q : Leading ℤ → Bool → Type 0) → LeadsNumber l o → ((x : Leading ℤ) (b : Bool) → InRange x.value → Q x b → b ≡ within r x.value) → MatchOption o (kept ≡ None) (λ x. (b : Bool) × Q x b × (kept ≡ then_some b x)) → NextValue (r ∷ []) l kept
next_tested r l None kept Q o test m = rw m (next_none (r ∷ []) l o)
next_tested r l (Some x) kept Q o test m = by m.0 (test x m.0 o.in_range m.1) m.2
  where
    by : (b : Bool) → b ≡ within r x.value → kept ≡ then_some b x → NextValue (r ∷ []) l kept
    by true w e = rw e (o, (r, [], refl, sym w))
    by false w e = rw e (next_other (r ∷ []) l x o (λ q rest z. let same : r ≡ q = cc in ap (λ y. within y x.value) (sym same) ∙ sym w))

-- one byte of the pattern, and the line with it
module _ (rs : List Range) (ws : List ℤ) where
  makes_at : (p q l m : List ℕ) → p ≡ q → l ≡ m → Makes q rs m ws → Makes p rs l ws
  makes_at p q l m e f k = (k.0, ap (λ z. spelt z ws) e ∙ k.1 ∙ sym f)

  byte_to : (b : ℕ) (p l : List ℕ) → (b ≡ 35 → ⊥) → Makes p rs l ws → Makes (b ∷ p) rs (b ∷ l) ws
  byte_to b p l e k = (k.0, spelt_byte b p ws e ∙ ap (λ z. b ∷ z) k.1)

  byte_from : (b : ℕ) (p l : List ℕ) → (b ≡ 35 → ⊥) → Makes (b ∷ p) rs l ws → (l ≡ b ∷ drop 1 l) × Makes p rs (drop 1 l) ws
  byte_from b p l e k =
      let f : b ∷ spelt p ws ≡ l = sym (spelt_byte b p ws e) ∙ k.1 in
      let g : spelt p ws ≡ drop 1 l = ap (drop 1) f in
      (sym f ∙ ap (λ z. b ∷ z) g, (k.0, g))

number_to : (p : List ℕ) (r : Range) (rs : List Range) (l : List ℕ) (v : ℤ) (n : ℕ) (ws : List ℤ) → LongestNumber l v n → within r v ≡ true → Makes p rs (drop n l) ws → Makes (35 ∷ p) (r ∷ rs) l (v ∷ ws)
number_to p r rs l v n ws o w k = (and_from (within r v) (in_ranges rs ws) w k.0, ap₂ ◌++◌ (sym o.is) k.1 ∙ take-append-drop n l)

number_parts : (p : List ℕ) (r : Range) (rs : List Range) (l : List ℕ) (vs : List ℤ) → Makes (35 ∷ p) (r ∷ rs) l vs → (v : ℤ) × (ws : List ℤ) × (within r v ≡ true) × (in_ranges rs ws ≡ true) × (l ≡ digits v ++ spelt p ws)
number_parts p r rs l [] k = absurd (false≢true k.0)
number_parts p r rs l (v ∷ ws) k = let q = and_parts (within r v) (in_ranges rs ws) k.0 in (v, ws, q.0, q.1, sym k.1)

-- whether n are left, by the test that nothing came
pub none_came : {A : Type 0} (P : Type 0) (Q : A → Type 0) (n : ℕ) (r : Option A) (b : Bool) → is_some r ≡ not b → MatchOption r P Q → (P → n ≡ 0) → ((x : A) → Q x → 0 < n) → (b ≡ true → n ≡ 0) × (b ≡ false → n ≡ 0 → ⊥)
none_came P Q n None true e m past more = ((λ _. past m), (λ z. absurd (false≢true (sym z))))
none_came P Q n None false e m past more = absurd (false≢true e)
none_came P Q n (Some x) true e m past more = absurd (false≢true (sym e))
none_came P Q n (Some x) false e m past more = ((λ z. absurd (false≢true z)), (λ _ k. omega (arith, k, more x m)))

no_ranges : (rs : List Range) → length rs ≡ 0 → in_ranges rs [] ≡ true
no_ranges [] e = refl
no_ranges (r ∷ rs) e = absurd (omega (arith, e))

-- The part of the work that is done: i bytes of the pattern and so many values; these ranges and this part of the line are left.
pub record Found (p : List ℕ) (rs : List Range) (l : List ℕ) (values : List ℤ) (i place : ℕ) (ranges : List Range) (left : List ℕ) : Type 0 where
  pub counted : place + length ranges ≡ length rs
  pub to : (ws : List ℤ) → Makes (drop i p) ranges left ws → Makes p rs l (take place values ++ ws)
  pub from : fitting p rs ≡ true → (vs : List ℤ) → Makes p rs l vs → (fitting (drop i p) ranges ≡ true) × ((ws : List ℤ) × Makes (drop i p) ranges left ws)

pub found_none : (p : List ℕ) (rs : List Range) (l : List ℕ) (values : List ℤ) → Found p rs l values 0 0 rs l
found_none p rs l values = record { counted = omega arith; to = λ ws k. k; from = λ f vs k. (f, (vs, k)) }

module _ (p : List ℕ) (rs : List Range) (l : List ℕ) (values : List ℤ) (i place : ℕ) (ranges : List Range) (left : List ℕ) (o : Found p rs l values i place ranges left) where
  module _ (h : i < length p) where
    abbrev b : ℕ
    b = get_or p i 0

    cut : drop i p ≡ b ∷ drop (i + 1) p
    cut = drop_more p i 0 h

    fit : fitting p rs ≡ true → (vs : List ℤ) → Makes p rs l vs → fitting (b ∷ drop (i + 1) p) ranges ≡ true
    fit f vs k = subst (λ q. fitting q ranges ≡ true) cut (o.from f vs k).0

    rest : (f : fitting p rs ≡ true) (vs : List ℤ) → Makes p rs l vs → (ws : List ℤ) × Makes (b ∷ drop (i + 1) p) ranges left ws
    rest f vs k = let q = (o.from f vs k).1 in (q.0, makes_at ranges q.0 _ _ _ _ (sym cut) refl q.1)

    module _ (e : b ≡ 35 → ⊥) where
      -- the line has another byte, or none
      pub found_other : ((m : List ℕ) → left ≡ b ∷ m → ⊥) → ReadsPattern p rs l None
      found_other other f vs k = let q = rest f vs k in other (drop 1 left) (byte_from ranges q.0 b (drop (i + 1) p) left e q.1).0

      pub found_byte : (m : List ℕ) → left ≡ b ∷ m → Found p rs l values (i + 1) place ranges m
      found_byte m is =
          record {
            counted = o.counted;
            to = λ ws k. o.to ws (makes_at ranges ws _ _ _ _ cut is (byte_to ranges ws b (drop (i + 1) p) m e k));
            from = λ f vs k.
                let q = rest f vs k in
                let g = (byte_from ranges q.0 b (drop (i + 1) p) left e q.1).1 in
                ((fitting_byte b (drop (i + 1) p) ranges e (fit f vs k)).1, (q.0, makes_at ranges q.0 (drop (i + 1) p) (drop (i + 1) p) _ _ refl (sym (ap (drop 1) is)) g));
          }

    module _ (e : b ≡ 35) where
      -- a fitting pattern has a range for each number
      pub found_past : length ranges ≡ 0 → ReadsPattern p rs l None
      found_past none' f vs k = omega (arith, (fitting_number b (drop (i + 1) p) ranges e (fit f vs k)).0)

      module _ (r : Range) (qs : List Range) (is : ranges ≡ r ∷ qs) where
        -- what the line has in the place of the number, if there is any way to read it
        value_here : (f : fitting p rs ≡ true) (vs : List ℤ) → Makes p rs l vs →
            (fitting (drop (i + 1) p) qs ≡ true) × ((v : ℤ) × (ws : List ℤ) × (within r v ≡ true) × (in_ranges qs ws ≡ true) × (left ≡ digits v ++ spelt (drop (i + 1) p) ws) × (Digit (get_or (spelt (drop (i + 1) p) ws) 0 0) → ⊥))
        value_here f vs k =
            let q = rest f vs k in
            let m : Makes (35 ∷ drop (i + 1) p) (r ∷ qs) left q.0 = subst (λ z. Makes (35 ∷ drop (i + 1) p) z left q.0) is (subst (λ z. Makes (z ∷ drop (i + 1) p) ranges left q.0) e q.1) in
            let g = fitting_number b (drop (i + 1) p) ranges e (fit f vs k) in
            let fits : fitting (drop (i + 1) p) qs ≡ true = subst (λ z. fitting (drop (i + 1) p) (drop 1 z) ≡ true) is g.2 in
            let n = number_parts (drop (i + 1) p) r qs left q.0 m in
            (fits, (n.0, n.1, n.2, n.3, n.4, spelt_ends (drop (i + 1) p) qs n.1 g.1 fits))

        pub found_missing : NextValue (r ∷ []) left None → ReadsPattern p rs l None
        found_missing none' f vs k = let v = (value_here f vs k).1 in none' r [] v.0 (spelt (drop (i + 1) p) v.1) refl v.2 v.4 v.5

        pub found_number : (x : Leading ℤ) → NextValue (r ∷ []) left (Some x) → length values ≡ length rs → Found p rs l (set values place x.value) (i + 1) (place + 1) qs (drop x.len left)
        found_number x y same =
            let v = x.value in
            let n = x.len in
            let w : within r v ≡ true = let z : y.1.0 ≡ r = ap (λ ys. get_or ys 0 r) (sym y.1.2) in subst (λ q. within q v ≡ true) z y.1.3 in
            record {
              counted = omega (arith, o.counted, ap length is);
              to = λ ws k.
                  let m : Makes (35 ∷ drop (i + 1) p) (r ∷ qs) left (v ∷ ws) = number_to (drop (i + 1) p) r qs left v n ws y.0 w k in
                  let m' : Makes (drop i p) ranges left (v ∷ ws) = subst (λ z. Makes (drop i p) z left (v ∷ ws)) (sym is) (makes_at (r ∷ qs) (v ∷ ws) _ _ _ _ (cut ∙ ap (λ z. z ∷ drop (i + 1) p) e) refl m) in
                  let t : take place values ++ (v ∷ ws) ≡ take (place + 1) (set values place v) ++ ws = sym (append_assoc (take place values) (v ∷ []) ws) ∙ ap (λ z. z ++ ws) (sym (take_more_set values place v (omega (arith, o.counted, ap length is)))) in
                  subst (λ z. Makes p rs l z) t (o.to (v ∷ ws) m');
              from = λ f vs k.
                  let a = value_here f vs k in
                  let u = a.1 in
                  let here = leading_found left u.0 (spelt (drop (i + 1) p) u.1) (within_in_range r u.0 u.2) u.4 u.5 v n y.0 in
                  let after : spelt (drop (i + 1) p) u.1 ≡ drop n left = sym (ap (drop n) u.4 ∙ drop_at (digits u.0) (spelt (drop (i + 1) p) u.1) n (sym here.0)) in
                  (a.0, (u.1, (u.3, after)));
            }

  module _ (h : length p ≤ i) where
    none_left : drop i p ≡ []
    none_left = drop_all i p h

    pub found_all : length values ≡ length rs → left ≡ [] → length ranges ≡ 0 → Makes p rs l values
    found_all same e f =
        let k : Makes (drop i p) ranges left [] = (no_ranges ranges f, ap (λ z. spelt z []) none_left ∙ sym e) in
        subst (λ z. Makes p rs l z) (append-nil (take place values) ∙ take_all place values (omega (arith, o.counted))) (o.to [] k)

    pub found_rest : (left ≡ [] → length ranges ≡ 0 → ⊥) → ReadsPattern p rs l None
    found_rest other f vs k =
        let q = o.from f vs k in
        let n = eqb-true (length ranges) 0 (subst (λ z. fitting z ranges ≡ true) none_left q.0) in
        other (sym (ap (λ z. spelt z q.1.0) (sym none_left) ∙ q.1.1.1)) n

    -- as the reader ends: by the test of the ranges that are left, or of the line
    pub found_whole : length values ≡ length rs → left ≡ [] → (b : Bool) → (b ≡ true → length ranges ≡ 0) → (b ≡ false → length ranges ≡ 0 → ⊥) → ReadsPattern p rs l (then_some b values)
    found_whole same e true whole part = found_all same e (whole refl)
    found_whole same e false whole part = found_rest (λ _ n. part refl n)

    pub found_part : (left ≡ [] → ⊥) → ReadsPattern p rs l None
    found_part ne = found_rest (λ e _. ne e)
