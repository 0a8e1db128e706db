-- The steps of reading a text line by line.
use Rattle.std.proofs.Common.{◌≡◌, ℕ, ◌+◌, ◌-◌, ◌<◌, ◌≤◌, List, [], ◌∷◌, ◌++◌, length, get_or, take, drop, set, Some, Option, sym, refl, ap, ◌∙◌, subst, ap₂, inl, inr, arith}
use Rattle.std.specs.List.{AllByRecursion}
use Rattle.std.proofs.ByRecursion.{All-get_or, All-more}
use Rattle.std.proofs.lemmas.List.{length-drop, get_or-drop, take_all, drop-drop, take-append-drop, take_more, take_more_set, drop-set-lt}
use Rattle.kinds.specs.Limits.{most_items}
use Rattle.kinds.specs.Text.{lines, ColumnOf, Good, items_of, Reads, Faulty}
use Rattle.kinds.proofs.Cut.{lines_some}
use Rattle.kinds.proofs.Sheets.{good_items, items_good, items_length, items_at}

module _ {X : Type 0} (reading : List ℕ → Option X) (t : List ℕ) where
  -- so many lines at the front are good
  pub record Along (count : ℕ) : Type 0 where
    pub good : AllByRecursion (Good reading) (take count (lines t))
    pub few : count ≤ most_items

  pub along_none : Along 0
  along_none = record { good = tt; few = omega arith }

  -- all lines
  pub along_all : (count : ℕ) → Along count → count ≤ length (lines t) → length (lines t) ≤ count → (xs : List X) × Reads reading t xs × (count ≡ length xs)
  along_all count a within past =
      let n : count ≡ length (lines t) = omega arith in
      let g = good_items reading (lines t) (subst (λ ls. AllByRecursion (Good reading) ls) (take_all count (lines t) (omega arith)) a.good) in
      let e = items_length reading (lines t) g.0 g.1 in
      (g.0, record { items = g.1; few = omega (arith, e, a.few) }, omega (arith, e))

  -- as many good lines as a sheet may have, and one more
  pub along_many : (count : ℕ) → Along count → count < length (lines t) → count ≡ most_items → Faulty reading t (count + 1) 0
  along_many count a within full =
      let z : count + 1 - 1 ≡ count = omega arith in
      record { first = omega arith; within = omega (arith, within); before = rw z a.good; here = inr (omega arith, refl) }

  -- a line is left where the rest of the text is not empty
  pub one_left : (count : ℕ) (rest : List ℕ) → lines rest ≡ drop count (lines t) → 0 < length rest → count < length (lines t)
  one_left count rest comes some = omega (arith, lines_some rest some, ap length comes, length-drop count (lines t))

  -- the line at a place, with those after it still to come
  module _ (count : ℕ) (left after : List (List ℕ)) (l : List ℕ) (comes : left ≡ drop count (lines t)) (next : left ≡ l ∷ after) where
    cut : drop count (lines t) ≡ l ∷ after
    cut = sym comes ∙ next

    pub comes_next : after ≡ drop (count + 1) (lines t)
    comes_next = ap (drop 1) (sym cut) ∙ drop-drop 1 count (lines t)

    pub more : count < length (lines t)
    more = omega (arith, ap length cut, length-drop count (lines t))

    pub is_line : get_or (lines t) count [] ≡ l
    is_line = ap (λ n. get_or (lines t) n []) (omega arith) ∙ sym (get_or-drop count (lines t) 0 []) ∙ ap (λ ls. get_or ls 0 []) cut

    pub along_fault : (c : ℕ) → Along count → count < most_items → (Good reading l → ⊥) → ColumnOf l c → Faulty reading t (count + 1) c
    along_fault c a small bad col =
        let z : count + 1 - 1 ≡ count = omega arith in
        record { first = omega arith; within = omega (arith, more); before = rw z a.good; here = inl (omega arith, rw (z, is_line) bad, rw (z, is_line) col) }

    pub along_next : Along count → count < most_items → Good reading l → Along (count + 1)
    along_next a small g = record { good = All-more (Good reading) (lines t) count [] more a.good (rw is_line g); few = omega arith }

    -- in a text that is read as a list every line is good
    pub along_read : (xs : List X) → Reads reading t xs → Good reading l
    along_read xs r = subst (λ z. Good reading z) is_line (All-get_or (Good reading) (lines t) count [] more (items_good reading (lines t) xs r.items))

  -- no line is left
  pub all_past : (count : ℕ) (left : List (List ℕ)) → left ≡ drop count (lines t) → left ≡ [] → length (lines t) ≤ count
  all_past count left comes none' = omega (arith, ap length (sym comes ∙ none'), length-drop count (lines t))

  -- the places up to a count hold the items of the lines before, the others what they held
  abbrev pub Filled : (before now : List X) (count : ℕ) → Type 0
  Filled before now count = (xs : List X) → items_of reading (lines t) ≡ Some xs → (take count now ≡ take count xs) × (drop count now ≡ drop count before)

  pub filled_none : (before : List X) → Filled before before 0
  filled_none before xs e = (refl, refl)

  module _ (before now : List X) (count : ℕ) (f : Filled before now count) where
    pub filled_next : (l : List ℕ) → count < length (lines t) → get_or (lines t) count [] ≡ l → (x : X) → reading l ≡ Some x → count < length now → Filled before (set now count x) (count + 1)
    filled_next l within is x r room xs e =
        let long = items_length reading (lines t) xs e in
        let y : get_or xs count x ≡ x = items_at reading (lines t) xs count x e within (rw is r) in
        let in' : count < length xs = omega arith in
        let p = f xs e in (
          take_more_set now count x room ∙ ap (λ z. z ++ x ∷ []) p.0 ∙ ap (λ z. take count xs ++ z ∷ []) (sym y) ∙ sym (take_more xs count x in'),
          drop-set-lt (count + 1) now count x (omega arith) ∙ (sym (drop-drop 1 count now) ∙ ap (drop 1) p.1 ∙ drop-drop 1 count before),
        )

    pub filled_all : count ≡ length (lines t) → (xs : List X) → Reads reading t xs → now ≡ xs ++ drop (length xs) before
    filled_all n xs r =
        let k : count ≡ length xs = omega (arith, items_length reading (lines t) xs r.items) in
        let p = f xs r.items in
        sym (take-append-drop count now) ∙ ap₂ ◌++◌ (p.0 ∙ take_all count xs (omega arith)) (p.1 ∙ ap (λ m. drop m before) k)
