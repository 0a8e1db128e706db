-- An opening: what the box asks of a slot is what the book asks, so that box
-- and book go on together.
use Rattle.std.proofs.Common.{◌≡◌, ℕ, ◌<◌, ◌≤◌, Bool, true, cond, ◌&&◌, eqb, ltb, ◌⊎◌, List, [], ◌∷◌, ◌++◌, map, length, drop, is_some, Some, None, Ok, Err, Option, sym, refl, ap, ◌∙◌, subst, inl, inr, ⊎_elim, arith}
use Rattle.std.specs.List.{flat_map, AllByRecursion}
use Rattle.std.proofs.lemmas.List.{length-map}
use Rattle.std.proofs.lemmas.List.Folds.{flat_map-map}
use Rattle.std.proofs.lemmas.Option.{none-some}
use Rattle.std.proofs.lemmas.Bool.{false≢true, both_ways, and_parts, and_from, eqb-true, eq-eqb, ltb-true, lt-ltb, cond_both}
use Rattle.book.specs.declared.Slot.{Slot}
use Rattle.book.specs.Keys.{last_of, slot_at, with_last}
use Rattle.book.specs.Book.{Call, Sealing, kind_of, setting, clearing, asking, opening, hits, good_key, key_in, text_of, slot_count, most_bytes, serial_end, Granted, Opened}
use Rattle.book.specs.Stands.{Agrees, Stands, Noted}
use Rattle.book.specs.Law.{Seals, OpenLaw, Passes}

some_of : {X : Type 0} (o : Option X) → is_some o ≡ true → (x : X) × (o ≡ Some x)
some_of None e = absurd (false≢true e)
some_of (Some x) e = (x, refl)

hit_within : (t s : ℕ) → hits t s ≡ true → s < slot_count
hit_within t s e =
    let p = and_parts (ltb t slot_count) (eqb s t) e in
    omega (arith, ltb-true t slot_count p.0, eqb-true s t p.1)

-- only a slot of the box has a key
pub key_within : (h : List Call) (s : ℕ) (k : List ℕ) → key_in h s ≡ Some k → s < slot_count
key_within [] s k = λ e. absurd (none-some k e)
key_within (setting t j ∷ h) s k =
    cond_both (good_key j && hits t s) (Some j) (key_in h s) (λ v. v ≡ Some k → s < slot_count)
    (λ b _. hit_within t s (and_parts (good_key j) (hits t s) b).1)
    (λ _. key_within h s k)
key_within (clearing t ∷ h) s k =
    cond_both (hits t s) None (key_in h s) (λ v. v ≡ Some k → s < slot_count) (λ b _. hit_within t s b) (λ _. key_within h s k)
key_within (asking t ∷ h) s k = key_within h s k
key_within (opening l q w n ∷ h) s k = key_within h s k

still : (slot : Slot) (k : Option (List ℕ)) (opened more : ℕ → Type 0) → ((m : ℕ) → more m → ⊥) → Agrees slot k opened → Agrees slot k (λ m. opened m ⊎ more m)
still slot k opened more never a =
    record {
      key_is = a.key_is;
      above = λ m p. ⊎_elim (a.above m) (λ q. absurd (never m q)) p;
      below = λ m p. a.below m (p.0, λ j o. p.1 j (inl o));
    }

module _ {X : Type 0} (lawful : X → Bool) (line : X → List ℕ) (number : ℕ) (reading : List ℕ → Option X)
    (reads : (x : X) → lawful x ≡ true → reading (line x) ≡ Some x)
    (sound : (l : List ℕ) (x : X) → reading l ≡ Some x → (lawful x ≡ true) × (line x ≡ l)) where
  abbrev Lawful : List X → Type 0
  Lawful xs = AllByRecursion (λ x. lawful x ≡ true) xs

  abbrev Has : List (List ℕ) → Type 0
  Has ls = AllByRecursion (λ l. (kind_of number reading).has l ≡ true) ls

  -- the lines of lawful items are lines of the kind
  has_lines : (xs : List X) → Lawful xs → Has (map line xs)
  has_lines [] e = tt
  has_lines (x ∷ xs) e = (ap is_some (reads x e.0), has_lines xs e.1)

  -- and lines of the kind are the lines of lawful items
  items_of : (ls : List (List ℕ)) → Has ls → (xs : List X) × Lawful xs × (map line xs ≡ ls)
  items_of [] e = ([], tt, refl)
  items_of (l ∷ ls) e =
      let y = some_of (reading l) e.0 in
      let r = sound l y.0 y.1 in
      let more = items_of ls e.1 in
      (y.0 ∷ more.0, (r.0, more.1), ap (λ k. k ∷ map line more.0) r.1 ∙ ap (λ ks. l ∷ ks) more.2)

  lines_joined : (xs : List X) → text_of (map line xs) ≡ flat_map line xs
  lines_joined xs = flat_map-map (λ l. l) line xs

  -- what `apart` asks of a text, and that sheets have it
  module _ (Text : List ℕ → Type 0)
      (text_good : (xs : List X) → Lawful xs → length (flat_map line xs) ≤ most_bytes → Text (flat_map line xs))
      (seal : Sealing)
      (apart : (s t m n : ℕ) (k j x y : List ℕ) → s < slot_count → t < slot_count → 0 < m → m < serial_end → 0 < n → n < serial_end → Text x → Text y → seal s number m k x ≡ seal t number n j y → (s ≡ t) × (m ≡ n))
      (one_list : (s m : ℕ) (k : List ℕ) (xs ys : List X) → s < slot_count → 0 < m → m < serial_end → Lawful xs → Lawful ys → Text (flat_map line xs) → Text (flat_map line ys) → seal s number m k (flat_map line xs) ≡ seal s number m k (flat_map line ys) → xs ≡ ys)
      (slots : List Slot) (l : List ℕ) (work : ℕ) (before : List X) where
    text_of_good : (ls : List (List ℕ)) → Has ls → length (text_of ls) ≤ most_bytes → Text (text_of ls)
    text_of_good ls has short =
        let y = items_of ls has in
        let same : flat_map line y.0 ≡ text_of ls = sym (lines_joined y.0) ∙ ap text_of y.2 in
        subst Text same (text_good y.0 y.1 (subst (λ (t : List ℕ). length t ≤ most_bytes) (sym same) short))

    abbrev at : ℕ → Slot
    at s = slot_at slots s

    abbrev Pass : (s m : ℕ) → List ℕ → List X → Type 0
    Pass s m key xs = Passes seal lawful line number slots l work (length before) s m key xs

    abbrev pub this : Call
    this = opening l (kind_of number reading) work (length before)

    abbrev Grant : List Call → (s m : ℕ) → Type 0
    Grant h s m = Granted seal (key_in h s) (Opened seal h s) l (kind_of number reading) work (length before) s m

    to_book : (h : List Call) → Stands seal slots h → (s m : ℕ) (key : List ℕ) (xs : List X) → Pass s m key xs → Grant h s m
    to_book h st s m key xs p =
        let later : last_of (at s) < m = p.later in
        let n = length-map xs line in
        let same = lines_joined xs in
        record {
          key = key;
          lines = map line xs;
          key_is = sym (st s).key_is ∙ p.key_is;
          sealed = record {
            lawful = has_lines xs p.seals.are_lawful;
            few = omega (arith, n, p.seals.few);
            short = subst (λ (t : List ℕ). length t ≤ most_bytes) (sym same) p.seals.short;
            serial_first = p.seals.serial_first;
            serial_last = p.seals.serial_last;
            line_is = p.seals.line_is ∙ ap (seal s number m key) (sym same);
          };
          fresh = (omega arith, λ j o. omega (arith, (st s).above j o));
          space = subst (λ (t : List ℕ). length t ≤ work) (sym same) p.space;
          room = omega (arith, n, p.place);
        }

    to_box : (h : List Call) → Stands seal slots h → (s m : ℕ) → Grant h s m → (key : List ℕ) × (xs : List X) × Pass s m key xs
    to_box h st s m o =
        let y = items_of o.lines o.sealed.lawful in
        let n : length y.0 ≡ length o.lines = sym (length-map y.0 line) ∙ ap length y.2 in
        let same : flat_map line y.0 ≡ text_of o.lines = sym (lines_joined y.0) ∙ ap text_of y.2 in (
          o.key,
          y.0,
          record {
            key_is = (st s).key_is ∙ o.key_is;
            later = (st s).below m o.fresh;
            seals = record {
              are_lawful = y.1;
              few = omega (arith, n, o.sealed.few);
              short = subst (λ (t : List ℕ). length t ≤ most_bytes) (sym same) o.sealed.short;
              serial_first = o.sealed.serial_first;
              serial_last = o.sealed.serial_last;
              line_is = o.sealed.line_is ∙ ap (seal s number m o.key) (sym same);
            };
            space = subst (λ (t : List ℕ). length t ≤ work) (sym same) o.space;
            place = omega (arith, n, o.room);
          },
        )

    pub refused_noted : ((s m : ℕ) (key : List ℕ) (xs : List X) → s < slot_count → Pass s m key xs → ⊥) → Noted seal slots slots (this ∷ [])
    refused_noted never h st s =
        still (at s) (key_in h s) (Opened seal h s) _ (λ m o. let b = to_box h st s m o in never s m b.0 b.1 (key_within h s o.key o.key_is) b.2) (st s)

    pub refused_law : {E : Type 0} (why : E) (after : List X) (h : List Call) → ((s m : ℕ) (key : List ℕ) (xs : List X) → s < slot_count → Pass s m key xs → ⊥) → Stands seal slots h → OpenLaw seal lawful line number h l work before after (Err why)
    refused_law why after h never st =
        record {
          exactly =
              λ space room. (
                (λ e. absurd (false≢true e)),
                λ o.
                    absurd
                    (never o.0 o.1 o.2 o.3 (key_within h o.0 o.2 o.4)
                    (record {
                      key_is = (st o.0).key_is ∙ o.4;
                      later = (st o.0).below o.1 o.6;
                      seals = o.5;
                      space = omega (arith, o.5.short);
                      place = omega (arith, o.5.few);
                    })),
              );
          delivered = λ n e. absurd (let z : ◌≡◌ {A = ℕ} 0 1 = cc in omega arith);
        }

    module _ (t n : ℕ) (key : List ℕ) (xs : List X) (p : Pass t n key xs) where
      abbrev next : Slot
      next = with_last (at t) n

      within : (h : List Call) → Stands seal slots h → t < slot_count
      within h st = key_within h t key (sym (st t).key_is ∙ p.key_is)

      -- whatever seals to this line has this slot and this serial
      same_place : (s m : ℕ) (k text : List ℕ) → s < slot_count → t < slot_count → 0 < m → m < serial_end → Text text → l ≡ seal s number m k text → (s ≡ t) × (m ≡ n)
      same_place s m k text hs ht first last good e =
          apart s t m n k key text (flat_map line xs) hs ht first last p.seals.serial_first p.seals.serial_last good (text_good xs p.seals.are_lawful p.seals.short) (sym e ∙ p.seals.line_is)

      -- the same of a grant of the book
      grant_place : (h : List Call) (s m : ℕ) → s < slot_count → t < slot_count → Grant h s m → (s ≡ t) × (m ≡ n)
      grant_place h s m hs ht o =
          same_place s m o.key (text_of o.lines) hs ht o.sealed.serial_first o.sealed.serial_last (text_of_good o.lines o.sealed.lawful o.sealed.short) o.sealed.line_is

      taken : (h : List Call) → Stands seal slots h → Agrees next (key_in h t) (Opened seal (this ∷ h) t)
      taken h st =
          let later : last_of (at t) < n = p.later in
          let ht = within h st in
          record {
            key_is = (st t).key_is;
            above =
                λ m q.
                ⊎_elim (λ e. omega (arith, (st t).above m e))
                (λ o. omega (arith, (grant_place h t m ht ht o).1)) q;
            below = λ m q. q.1 n (inr (to_book h st t n key xs p));
          }

      pub passed_noted : (after : List Slot) → ((s : ℕ) → slot_at after s ≡ cond (hits t s) next (at s)) → Noted seal slots after (this ∷ [])
      passed_noted after e h st s =
          let O = Opened seal (this ∷ h) in
          let ht = within h st in
          subst (λ (v : Slot). Agrees v (key_in h s) (O s)) (sym (e s))
          (cond_both (hits t s) next (at s) (λ v. Agrees v (key_in h s) (O s))
          (λ b.
          let same = eqb-true s t (and_parts (ltb t slot_count) (eqb s t) b).1 in
          subst (λ (u : ℕ). Agrees next (key_in h u) (O u)) (sym same) (taken h st))
          (λ b.
          still (at s) (key_in h s) (Opened seal h s) _
          (λ m o.
          let hs = key_within h s o.key o.key_is in
          let same = (grant_place h s m hs ht o).0 in
          both_ways (hits t s) b (and_from _ _ (lt-ltb t slot_count ht) (eq-eqb s t same)))
          (st s)))

      only_one : (h : List Call) → key_in h t ≡ Some key → (s m : ℕ) (k : List ℕ) (ys : List X) → key_in h s ≡ Some k → Seals seal lawful line number s m k l ys → ys ≡ xs
      only_one h mine s m k ys his q =
          let ht = key_within h t key mine in
          let hs = key_within h s k his in
          let at_same = same_place s m k (flat_map line ys) hs ht q.serial_first q.serial_last (text_good ys q.are_lawful q.short) q.line_is in
          let there = ap (key_in h) at_same.0 in
          let k_is : k ≡ key = cc in
          let turned : seal s number m k (flat_map line ys) ≡ seal t number n key (flat_map line ys) =
          ap (λ u. seal u number m k (flat_map line ys)) at_same.0 ∙ ap (λ u. seal t number u k (flat_map line ys)) at_same.1 ∙ ap (λ u. seal t number n u (flat_map line ys)) k_is in
          one_list t n key ys xs ht p.seals.serial_first p.seals.serial_last q.are_lawful p.seals.are_lawful (text_good ys q.are_lawful q.short) (text_good xs p.seals.are_lawful p.seals.short) (sym turned ∙ sym q.line_is ∙ p.seals.line_is)

      pub passed_law : {E : Type 0} (h : List Call) (count : ℕ) (after : List X) → count ≡ length xs → after ≡ xs ++ drop count before → Stands seal slots h → OpenLaw seal lawful line number {E = E} h l work before after (Ok count)
      passed_law h count after c e st =
          let k = sym (st t).key_is ∙ p.key_is in
          let f = (to_book h st t n key xs p).fresh in
          record {
            exactly = λ _ _. ((λ _. (t, n, key, xs, k, p.seals, f)), λ _. refl);
            delivered =
                λ j is.
                let j_is : j ≡ count = cc in
                record {
                  slot = t;
                  serial = n;
                  key = key;
                  items = xs;
                  key_is = k;
                  seals = p.seals;
                  fresh = f;
                  count = j_is ∙ c;
                  places = e ∙ ap (λ u. xs ++ drop u before) (sym j_is);
                  only = only_one h k;
                };
          }
