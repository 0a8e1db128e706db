-- Texts of lists, for any kind: by its lawful items, their lines, and which item has a line.
use Rattle.std.proofs.Common.{◌≡◌, ℕ, zero, suc, ◌+◌, ◌-◌, ◌<◌, ◌≤◌, Bool, true, false, List, [], ◌∷◌, ◌++◌, length, get_or, take, is_some, Some, None, Option, sym, refl, ap, ◌∙◌, subst, ap₂, ⊎_elim, arith}
use Rattle.std.specs.List.{flat_map, AllByRecursion}
use Rattle.std.proofs.ByRecursion.{All-get_or}
use Rattle.std.proofs.lemmas.List.{get_or-take, length-take-le}
use Rattle.std.proofs.lemmas.Bool.{cases_eq, cases_order}
use Rattle.shape.specs.Form.{WellShaped}
use Rattle.shape.proofs.Columns.{one_column}
use Rattle.kinds.specs.Limits.{most_items}
use Rattle.kinds.specs.Text.{lines, ColumnOf, AllLawful, text_of, Good, add, items_of, Reads, Faulty, SameText, ReadsItsText, OneAnswer}
use Rattle.kinds.proofs.Cut.{shaped_first, lines_join}

pub same_column : (l : List ℕ) (c c' : ℕ) → ColumnOf l c → ColumnOf l c' → c ≡ c'
same_column l c c' k k' =
    ⊎_elim (λ e. e) (λ ne. let not_shaped : WellShaped l → ⊥ = λ w. ne (k.0 w ∙ sym (k'.0 w)) in one_column WellShaped l c c' (k.1 not_shaped) (k'.1 not_shaped)) (cases_eq c c')

module _ {X : Type 0} (reading : List ℕ → Option X) where
  pub none_bad : (l : List ℕ) → reading l ≡ None → Good reading l → ⊥
  none_bad l e g = let z : ◌≡◌ {A = Bool} false true = ap is_some (sym e) ∙ g in let n : ◌≡◌ {A = ℕ} 0 1 = cc in omega arith

  good_some : (l : List ℕ) (o : Option X) → reading l ≡ o → Good reading l → (x : X) × (reading l ≡ Some x)
  good_some l None e g = absurd (none_bad l e g)
  good_some l (Some x) e g = (x, e)

  add_some : (o : Option X) (r : Option (List X)) (xs : List X) → add o r ≡ Some xs → (x : X) × (ys : List X) × (o ≡ Some x) × (r ≡ Some ys) × (xs ≡ x ∷ ys)
  add_some None r xs e = absurd (let n : ◌≡◌ {A = ℕ} 0 1 = cc in omega arith)
  add_some (Some x) None xs e = absurd (let n : ◌≡◌ {A = ℕ} 0 1 = cc in omega arith)
  add_some (Some x) (Some ys) xs e = (x, ys, refl, refl, cc)

  -- good lines are those of a list
  pub good_items : (ls : List (List ℕ)) → AllByRecursion (Good reading) ls → (xs : List X) × (items_of reading ls ≡ Some xs)
  good_items [] a = ([], refl)
  good_items (l ∷ ls) a =
      let x = good_some l (reading l) refl a.0 in
      let xs = good_items ls a.1 in
      (x.0 ∷ xs.0, ap₂ (add) x.1 xs.1)

  pub items_good : (ls : List (List ℕ)) (xs : List X) → items_of reading ls ≡ Some xs → AllByRecursion (Good reading) ls
  items_good [] xs e = tt
  items_good (l ∷ ls) xs e =
      let p = add_some (reading l) (items_of reading ls) xs e in
      (ap is_some p.2, items_good ls p.1 p.3)

  pub items_length : (ls : List (List ℕ)) (xs : List X) → items_of reading ls ≡ Some xs → length xs ≡ length ls
  items_length [] xs e = let z : [] ≡ xs = cc in ap length (sym z)
  items_length (l ∷ ls) xs e =
      let p = add_some (reading l) (items_of reading ls) xs e in
      ap length p.4 ∙ ap suc (items_length ls p.1 p.3)

  -- the item at a place has the line at that place
  pub items_at : (ls : List (List ℕ)) (xs : List X) (i : ℕ) (x : X) → items_of reading ls ≡ Some xs → i < length ls → reading (get_or ls i []) ≡ Some x → get_or xs i x ≡ x
  items_at [] xs i x e h r = absurd (omega arith)
  items_at (l ∷ ls) xs zero x e h r = let p = add_some (reading l) (items_of reading ls) xs e in rw p.4 (let z : Some p.0 ≡ Some x = sym p.2 ∙ r in cc)
  items_at (l ∷ ls) xs (suc i) x e h r = let p = add_some (reading l) (items_of reading ls) xs e in rw p.4 (items_at ls p.1 i x p.3 (omega arith) r)

  -- a fault is the only one
  module _ (t : List ℕ) where
    earlier : (n c n' c' : ℕ) → Faulty reading t n c → Faulty reading t n' c' → n < n' → ⊥
    earlier n c n' c' f f' l =
        let in' : n - 1 < length (take (n' - 1) (lines t)) = omega (arith, length-take-le (n' - 1) (lines t) (omega (arith, f'.within)), f.first) in
        let g = All-get_or (Good reading) (take (n' - 1) (lines t)) (n - 1) [] in' f'.before in
        let e = get_or-take (n' - 1) (lines t) (n - 1) [] (omega (arith, f.first)) in
        let few : n' ≤ most_items + 1 = ⊎_elim (λ h. omega (arith, h.0)) (λ h. omega (arith, h.0)) f'.here in
        ⊎_elim (λ h. h.1 (subst (λ z. Good reading z) e g)) (λ h. omega (arith, h.0)) f.here

    same_fault : (n c n' c' : ℕ) → Faulty reading t n c → Faulty reading t n' c' → (n ≡ n') × (c ≡ c')
    same_fault n c n' c' f f' =
        let e : n ≡ n' = ⊎_elim (λ e. e) (⊎_elim (λ (l : n < n'). absurd (earlier n c n' c' f f' l)) (λ (l : n' < n). absurd (earlier n' c' n c f' f l))) (cases_order n n') in
        let l = get_or (lines t) (n - 1) [] in
        let same : get_or (lines t) (n' - 1) [] ≡ l = ap (λ z. get_or (lines t) (z - 1) []) (sym e) in
        (e, ⊎_elim (λ h. ⊎_elim (λ h'. same_column l c c' h.2 (subst (λ z. ColumnOf z c') same h'.2)) (λ h'. absurd (omega (arith, h.0, h'.0))) f'.here) (λ h. ⊎_elim (λ h'. absurd (omega (arith, h.0, h'.0))) (λ h'. h.1 ∙ sym h'.1) f'.here) f.here)

    no_fault : (n c : ℕ) (xs : List X) → Faulty reading t n c → Reads reading t xs → ⊥
    no_fault n c xs f r =
        let g = All-get_or (Good reading) (lines t) (n - 1) [] (omega (arith, f.first, f.within)) (items_good (lines t) xs r.items) in
        ⊎_elim (λ h. h.1 g) (λ h. omega (arith, h.0, f.within, r.few, items_length (lines t) xs r.items)) f.here

  pub one_answer : OneAnswer reading
  one_answer t = (same_fault t, no_fault t)

  module _ (lawful : X → Bool) (line : X → List ℕ) (shaped : (x : X) → lawful x ≡ true → WellShaped (line x)) (found : (x : X) → lawful x ≡ true → reading (line x) ≡ Some x) (sound : (l : List ℕ) (x : X) → reading l ≡ Some x → (lawful x ≡ true) × (line x ≡ l)) where
    -- a list is found again in its text
    items_back : (xs : List X) → AllLawful lawful xs → items_of reading (lines (text_of line xs)) ≡ Some xs
    items_back [] a = refl
    items_back (x ∷ xs) a =
        ap (items_of reading) (shaped_first (line x) (text_of line xs) (shaped x a.0)) ∙ ap₂ (add) (found x a.0) (items_back xs a.1)

    pub same_text : SameText lawful line
    same_text xs ys a b e = let z : Some xs ≡ Some ys = sym (items_back xs a) ∙ ap (λ t. items_of reading (lines t)) e ∙ items_back ys b in cc

    items_lawful : (ls : List (List ℕ)) (xs : List X) → items_of reading ls ≡ Some xs → AllLawful lawful xs × (text_of line xs ≡ flat_map (λ l. l) ls)
    items_lawful [] xs e = let z : [] ≡ xs = cc in rw (← z) (tt, refl)
    items_lawful (l ∷ ls) xs e =
        let p = add_some (reading l) (items_of reading ls) xs e in
        let s = sound l p.0 p.2 in
        let r = items_lawful ls p.1 p.3 in
        rw p.4 ((s.0, r.0), ap₂ ◌++◌ s.1 r.1)

    pub reads_its_text : ReadsItsText lawful line reading
    reads_its_text t xs = (
      (λ r. let p = items_lawful (lines t) xs r.items in (p.0, r.few, p.1 ∙ lines_join t)),
      (λ a few e. record { items = rw (← e) (items_back xs a); few = few }),
    )
