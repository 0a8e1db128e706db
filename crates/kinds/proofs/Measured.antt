-- The steps of measuring and writing a list item by item.
use Rattle.std.proofs.Common.{◌≡◌, ℕ, ◌+◌, ◌<◌, ◌≤◌, Bool, true, false, List, [], ◌∷◌, ◌++◌, length, get_or, take, drop, Ok, Err, Some, None, Option, MatchOption, ok_or, sym, refl, ap, ◌∙◌, subst, ⊎_elim, arith, length-append}
use Rattle.std.specs.List.{flat_map}
use Rattle.std.proofs.ByRecursion.{All-more}
use Rattle.std.proofs.lemmas.List.{take_more, flat_map_more, take_all, get_or_default, at_drop_more, at_drop_all}
use Rattle.std.proofs.lemmas.Bool.{both_ways}
use Rattle.refusal.specs.declared.Refusal.{Refusal}
use Rattle.kinds.specs.Kind.{Writes}
use Rattle.kinds.specs.Limits.{most_items, most_bytes, longest_line}
use Rattle.kinds.specs.Text.{AllLawful, text_of, Sheet, FirstUnlawful}

-- a count of n bytes that stops growing once it is past what a sheet's text may have
pub record Counted (total n : ℕ) : Type 0 where
  pub small : total ≤ most_bytes + longest_line
  pub exact : total ≤ most_bytes → total ≡ n
  pub past : most_bytes < total → most_bytes < n

module _ {X : Type 0} (lawful : X → Bool) (line : X → List ℕ) (xs : List X) where
  -- one item more
  pub text_more : (i : ℕ) (x : X) → i < length xs → x ≡ get_or xs i x → text_of line (take (i + 1) xs) ≡ text_of line (take i xs) ++ line x
  text_more i x h is = ap (flat_map line) (take_more xs i x h ∙ ap (λ y. take i xs ++ y ∷ []) (sym is)) ∙ sym (flat_map_more line [] (take i xs) x)

  -- the items before i are lawful, and their text is counted
  abbrev pub Measured : (total i : ℕ) → Type 0
  Measured total i = AllLawful lawful (take i xs) × Counted total (length (text_of line (take i xs)))

  pub measured_none : Measured 0 0
  measured_none = (tt, record { small = omega arith; exact = λ _. refl; past = λ h. omega arith })

  module _ (total i : ℕ) (x : X) (h : i < length xs) (is : x ≡ get_or xs i x) (inv : Measured total i) where
    pub first_unlawful : lawful x ≡ false → FirstUnlawful lawful xs i
    first_unlawful e = record { within = h; before = inv.0; here = λ d. ap lawful (get_or_default xs i d x h ∙ sym is) ∙ e }

    module _ (good : lawful x ≡ true) (n : ℕ) (len : n ≡ length (line x)) (few : n ≤ longest_line) where
      longer : length (text_of line (take (i + 1) xs)) ≡ length (text_of line (take i xs)) + n
      longer = ap length (text_more i x h is) ∙ length-append (text_of line (take i xs)) (line x) ∙ ap (λ m. length (text_of line (take i xs)) + m) (sym len)

      goes : AllLawful lawful (take (i + 1) xs)
      goes = All-more (λ y. lawful y ≡ true) xs i x h inv.0 (ap lawful (sym is) ∙ good)

      pub measured_add : (now : ℕ) → total ≤ most_bytes → now ≡ total + n → Measured now (i + 1)
      measured_add now l e = (goes, record { small = omega arith; exact = λ _. omega (arith, longer, inv.1.exact l); past = λ k. omega (arith, longer, inv.1.exact l) })

      pub measured_keep : (now : ℕ) → most_bytes < total → now ≡ total → Measured now (i + 1)
      measured_keep now l e = (goes, record { small = omega (arith, inv.1.small); exact = λ k. omega arith; past = λ k. omega (arith, longer, inv.1.past l) })

  -- all items
  module _ (total i : ℕ) (all : length xs ≤ i) (inv : Measured total i) where
    whole : take i xs ≡ xs
    whole = take_all i xs all

    pub measured_lawful : AllLawful lawful xs
    measured_lawful = subst (λ ys. AllLawful lawful ys) whole inv.0

    counted : Counted total (length (text_of line xs))
    counted = subst (λ ys. Counted total (length (text_of line ys))) whole inv.1

    pub measured_past : most_bytes < total → most_bytes < length (text_of line xs)
    measured_past l = counted.past l

    pub measured_all : length xs ≤ most_items → total ≤ most_bytes → Sheet lawful line xs × (total ≡ length (text_of line xs))
    measured_all few l = (record { all_lawful = measured_lawful; few = few; short = omega (arith, counted.exact l) }, counted.exact l)

-- The length of an item's line, or else a refusal: which of the two it is says whether the item is lawful.
pub told_len : (lawful : Bool) (w : List ℕ) (o : Option ℕ) (why : Refusal) → MatchOption o (lawful ≡ false) (λ n. (lawful ≡ true) × (n ≡ length w) × (n ≤ longest_line)) → ((n : ℕ) → Ok n ≡ ok_or o why → (lawful ≡ true) × (n ≡ length w) × (n ≤ longest_line)) × ((e : Refusal) → Err e ≡ ok_or o why → (lawful ≡ false) × (e ≡ why))
told_len b w (Some n) why m = ((λ k e. let same : k ≡ n = cc in rw same m), (λ k e. absurd (let z : ◌≡◌ {A = ℕ} 0 1 = cc in omega arith)))
told_len b w None why m = ((λ k e. absurd (let z : ◌≡◌ {A = ℕ} 0 1 = cc in omega arith)), (λ k e. (m, cc)))

-- Writing an item: a lawful one is not refused where its line fits.
pub write_granted : (lawful : Bool) (w before after : List ℕ) (e : Refusal) → lawful ≡ true → length w ≤ length before → Writes lawful w before after (Err e) → ⊥
write_granted b w before after e good room k = ⊎_elim (λ p. both_ways b p.0 good) (λ p. omega (arith, p.1)) k.0

-- the text from an item on
pub next_text : {X : Type 0} (line : X → List ℕ) (xs : List X) (i : ℕ) (x : X) → i < length xs → x ≡ get_or xs i x → text_of line (drop i xs) ≡ line x ++ text_of line (drop (i + 1) xs)
next_text line xs i x h is = at_drop_more (text_of line) xs i x h ∙ ap (λ y. line y ++ text_of line (drop (i + 1) xs)) (sym is)

pub no_text : {X : Type 0} (line : X → List ℕ) (xs : List X) (i : ℕ) → length xs ≤ i → text_of line (drop i xs) ≡ []
no_text line xs i h = at_drop_all (text_of line) xs i h
