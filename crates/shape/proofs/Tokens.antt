-- A token and what follows it, for any set T whose texts are of bytes that can not follow one.
use Rattle.std.proofs.Common.{◌≡◌, ℕ, ◌+◌, ◌<◌, ◌≤◌, List, [], ◌∷◌, ◌++◌, length, get_or, take, drop, sym, refl, ap, ◌∙◌, ap₂, append_assoc, arith}
use Rattle.std.specs.List.{AllByRecursion}
use Rattle.std.proofs.lemmas.List.{append-nil, take-append-drop, length-take-le, length-drop, get_or-drop, take_more}
use Rattle.shape.specs.Column.{Front}
use Rattle.shape.specs.Outcome.{Fault, CarriesTo, Then}
use Rattle.shape.specs.Token.{Munch}
use Rattle.shape.proofs.Carry.{Starts, carry}
use Rattle.shape.proofs.Columns.{front_shorter}

-- two texts of the class C with other bytes after them
pub parts_agree : (C : ℕ → Type 0) (t t' u u' : List ℕ) → AllByRecursion C t → AllByRecursion C t' → (C (get_or u 0 0) → ⊥) → 0 < length u → (C (get_or u' 0 0) → ⊥) → 0 < length u' → t ++ u ≡ t' ++ u' → (t ≡ t') × (u ≡ u')
parts_agree C [] [] u u' a a' s n s' n' e = (refl, e)
parts_agree C [] (x ∷ t') u u' a a' s n s' n' e = absurd (s (rw e a'.0))
parts_agree C (x ∷ t) [] u u' a a' s n s' n' e = absurd (s' (rw (← e) a.0))
parts_agree C (x ∷ t) (y ∷ t') u u' a a' s n s' n' e =
    let h : x ≡ y = cc in
    let e' : t ++ u ≡ t' ++ u' = cc in
    let r = parts_agree C t t' u u' a.1 a'.1 s n s' n' e' in
    (ap₂ ◌∷◌ h r.0, r.1)

-- A text that begins a token, and with the byte after it none, is the token of any writing that goes on so.
munch_agrees : (C : ℕ → Type 0) (T : List ℕ → Type 0) (t t' : List ℕ) (b : ℕ) (r u' : List ℕ) → AllByRecursion C t → T t' → (Front T (t ++ b ∷ []) → ⊥) →
    (C (get_or u' 0 0) → ⊥) → 0 < length u' → t ++ b ∷ r ≡ t' ++ u' → (t ≡ t') × (b ∷ r ≡ u')
munch_agrees C T [] [] b r u' a g s s' n' e = (refl, e)
munch_agrees C T [] (x ∷ t') b r u' a g s s' n' e = let h : x ≡ b = cc in absurd (s (t', rw (← h) g))
munch_agrees C T (x ∷ t) [] b r u' a g s s' n' e = absurd (s' (rw (← e) a.0))
munch_agrees C T (x ∷ t) (y ∷ t') b r u' a g s s' n' e =
    let h : x ≡ y = cc in
    let e' : t ++ b ∷ r ≡ t' ++ u' = cc in
    let q = munch_agrees C (λ z. T (x ∷ z)) t t' b r u' a.1 (rw h g) s s' n' e' in
    (ap₂ ◌∷◌ h q.0, q.1)

pub all_front : (C : ℕ → Type 0) (t u : List ℕ) → AllByRecursion C (t ++ u) → AllByRecursion C t
all_front C [] u a = tt
all_front C (x ∷ t) u a = (a.0, all_front C t u a.1)

first_is : (x : List ℕ) → 0 < length x → x ≡ get_or x 0 0 ∷ drop 1 x
first_is [] l = absurd (omega arith)
first_is (b ∷ x) l = refl

-- what follows a text still begins with another byte when more is put after it
pub grown : (C : ℕ → Type 0) (v k : List ℕ) → (0 < length v) × (C (get_or v 0 0) → ⊥) → (0 < length (v ++ k)) × (C (get_or (v ++ k) 0 0) → ⊥)
grown C [] k e = absurd (omega (arith, e.0))
grown C (b ∷ v) k e = (omega arith, e.1)

-- no longer front part than the one munched is a token
pub munch_longest : (T : List ℕ → Type 0) (s : List ℕ) (n : ℕ) → Munch T s n → (m : ℕ) → n < m → m ≤ length s → T (take m s) → ⊥
munch_longest T s n u m l fits g = u.stops (omega arith) (front_shorter T s (n + 1) m (omega arith) ([], rw append-nil g))

-- C holds the bytes of the tokens, and what follows in H begins with another
module _ (C : ℕ → Type 0) (T H : List ℕ → Type 0) (class : (t : List ℕ) → T t → AllByRecursion C t) (ends : (v : List ℕ) → H v → (0 < length v) × (C (get_or v 0 0) → ⊥))
    (s : List ℕ) (n : ℕ) (m : Munch T s n) where
  long : length (take n s) ≡ n
  long = length-take-le n s m.fits

  bytes : AllByRecursion C (take n s)
  bytes = all_front C (take n s) m.begins.0 (class _ m.begins.1)

  -- the token that any other writing has here is this one
  pub the_token : (t v k x : List ℕ) → Starts (drop n s) x → T t → H v → (t ++ v) ++ k ≡ take n s ++ x → (take n s ≡ t) × (x ≡ v ++ k)
  the_token t v k x st g h e =
      let within : n < length s = omega (arith, st.0, length-drop n s) in
      let b = get_or x 0 0 in
      let byte : b ≡ get_or s n 0 = st.2 ∙ get_or-drop n s 0 0 ∙ ap (λ i. get_or s i 0) (omega arith) in
      let stop : Front T (take n s ++ b ∷ []) → ⊥ = λ f. m.stops within (rw (take_more s n 0 within, ← byte) f) in
      let x_is = first_is x st.1 in
      let e₁ : take n s ++ b ∷ drop 1 x ≡ t ++ (v ++ k) = ap (λ z. take n s ++ z) (sym x_is) ∙ sym e ∙ append_assoc t v k in
      let r = munch_agrees C T (take n s) t b (drop 1 x) (v ++ k) bytes g stop (grown C v k (ends v h)).1 (grown C v k (ends v h)).0 e₁ in
      (r.0, x_is ∙ r.1)

  pub token_goes : T (take n s) → CarriesTo (Then T H) H s n
  token_goes g =
      carry (Then T H) H s (take n s) (drop n s) n (sym (take-append-drop n s)) long (λ w h. (take n s, w, g, h, refl))
      (λ w k x st q e. let r = the_token q.0 q.1 k x st q.2 q.3 (ap (λ z. z ++ k) (sym q.4) ∙ e) in (q.1, k, q.3, sym r.1))

  pub token_fault : (T (take n s) → ⊥) → (v : List ℕ) → H v → Fault (Then T H) s n
  token_fault no' v h =
      record {
        front = take n s;
        back = drop n s;
        cut = sym (take-append-drop n s);
        long = long;
        more = m.begins.0 ++ v;
        can = (take n s ++ m.begins.0, v, m.begins.1, h, sym (append_assoc (take n s) m.begins.0 v));
        stuck = λ b q w k r e g i.
            let st : Starts (drop n s) (b ∷ r) = rw e (omega arith, omega arith, refl) in
            let z = the_token g.0 g.1 k (b ∷ r) st g.2 g.3 (ap (λ z. z ++ k) (sym g.4) ∙ i) in
            no' (rw z.0 g.2);
      }
