-- One step of each reader, over the bytes that are left.
use Rattle.std.proofs.Common.{◌≡◌, ℕ, zero, suc, ◌+◌, ◌-◌, ◌<◌, ◌≤◌, ◌⊎◌, List, [], ◌∷◌, ◌++◌, length, get_or, take, drop, Ok, Err, Result, sym, refl, ap, ◌∙◌, ap₂, inl, inr, ⊎_elim, append_assoc, one-add, add_assoc, false, arith}
use Rattle.std.proofs.lemmas.List.{append-nil, take-append-drop, length-take-le, get_or-take, drop_at, get_or_append_left, take_more, length-drop}
use Rattle.std.specs.Result.{is_ok}
use Rattle.std.proofs.lemmas.Bool.{false≢true}
use Rattle.shape.specs.Form.{Form, Args, form, none, number, inner, written, closed, Word, Number, Shaped, ShapedArgs, Forms, Tails}
use Rattle.shape.specs.Outcome.{Read, Fault, Outcome, shift, Carries, Then}
use Rattle.shape.specs.Token.{Munch, Token}
use Rattle.shape.proofs.Tokens.{the_token, token_fault, token_goes}
use Rattle.shape.proofs.Agree.{Inside, word_inside, number_inside, tail_ends, number_first, not_both, same_form, form_first}
use Rattle.shape.proofs.Carry.{Starts, carry, carry_fault, carries_more, read_fits}

-- nothing was read yet, and the input ends
pub at_end : (G : List ℕ → Type 0) (s w : List ℕ) → s ≡ [] → G w → Fault G s 0
at_end G s w e g =
    record { front = []; back = s; cut = refl; long = refl; more = w; can = g; stuck = λ b q v k r h _ _. let z : [] ≡ b ∷ q = sym e ∙ h in absurd (omega (arith, ap length z)) }

-- nothing was read yet, and no writing begins with the byte that stands there
pub at_byte : (G : List ℕ → Type 0) (s w : List ℕ) (c : ℕ) (u : List ℕ) → s ≡ c ∷ u → G w → ((v k : List ℕ) → G v → get_or (v ++ k) 0 0 ≡ c → ⊥) → Fault G s 0
at_byte G s w c u e g no' =
    record {
      front = [];
      back = s;
      cut = refl;
      long = refl;
      more = w;
      can = g;
      stuck = λ b q v k r h g' i. let z : b ∷ q ≡ c ∷ u = sym h ∙ e in let y : b ≡ c = cc in no' v k g' (ap (λ x. get_or x 0 0) i ∙ y);
    }

tail_first : (d : ℕ) (v k : List ℕ) → Tails d v → (get_or (v ++ k) 0 0 ≡ 32) ⊎ (get_or (v ++ k) 0 0 ≡ 41)
tail_first d v k g = rw g.2 (first g.0)
  where
    first : (a : Args) → (get_or (closed a ++ k) 0 0 ≡ 32) ⊎ (get_or (closed a ++ k) 0 0 ≡ 41)
    first none = inr refl
    first (number t a) = inl refl
    first (inner f a) = inl refl

-- a word and a number to complete a writing with
pub letter_a : Word (97 ∷ [])
letter_a = (omega arith, omega arith, ((omega arith, omega arith), tt))

pub digit_0 : Number (48 ∷ [])
digit_0 = inl (omega arith, omega arith, ((omega arith, omega arith), tt), λ _. refl)

shallow : {d : ℕ} (f : Form) → Shaped d f → d ≡ 0 → ⊥
shallow (form w a) s z = omega (arith, s.0)

-- what begins a token, and was not empty, is no form
not_form : (u : List ℕ) (n : ℕ) → Munch Number u n → 0 < n → get_or u 0 0 ≡ 40 → ⊥
not_form u n m z e =
    let first : get_or (take n u ++ m.begins.0) 0 0 ≡ get_or u 0 0 = get_or_append_left (take n u) m.begins.0 0 0 (omega (arith, length-take-le n u m.fits)) ∙ get_or-take n u 0 0 z in
    number_first (take n u ++ m.begins.0) [] m.begins.1 (rw append-nil (first ∙ e))

module _ (d : ℕ) (s u : List ℕ) where
  -- ")" closes the arguments
  pub args_close : s ≡ 41 ∷ u → Read (Tails d) s 1
  args_close e = record { front = 41 ∷ []; back = u; cut = e; long = refl; is = (none, tt, refl) }

  pub args_end : s ≡ [] → Fault (Tails d) s 0
  args_end e = at_end (Tails d) s (41 ∷ []) e (none, tt, refl)

  -- neither ")" nor a space
  pub args_other : (c : ℕ) → s ≡ c ∷ u → (c ≡ 41 → ⊥) → (c ≡ 32 → ⊥) → Fault (Tails d) s 0
  args_other c e n₁ n₂ =
      at_byte (Tails d) s (41 ∷ []) c u e (none, tt, refl) (λ v k g h. ⊎_elim (λ z. n₂ (sym h ∙ z)) (λ z. n₁ (sym h ∙ z)) (tail_first d v k g))

  -- a space, and then what begins a number
  module _ (e : s ≡ 32 ∷ u) (n : ℕ) (m : Munch Number u n) where
    strip_number : Number (take n u) → (k x : List ℕ) → Starts (drop n u) x → (a : Args) → ShapedArgs d a → closed a ++ k ≡ 32 ∷ (take n u ++ x) → (w' : List ℕ) × (k' : List ℕ) × Tails d w' × (w' ++ k' ≡ x)
    strip_number g k x st none sh h = absurd (omega (arith, ap (λ z. get_or z 0 0) h))
    strip_number g k x st (number t a) sh h =
        let h₁ : (t ++ closed a) ++ k ≡ take n u ++ x = cc in
        let r = the_token Inside Number (Tails d) number_inside (tail_ends d) u n m t (closed a) k x st sh.0 (a, sh.1, refl) h₁ in
        (closed a, k, (a, sh.1, refl), sym r.1)
    strip_number g k x st (inner f a) sh h =
        let h₁ : (written f ++ closed a) ++ k ≡ take n u ++ x = cc in
        absurd (not_both (take n u) x (closed a ++ k) f g (sym (simp append_assoc at h₁)))

    -- a whole number
    pub args_number : Number (take n u) → Carries (Tails d) s (1 + n)
    args_number g r o =
        let o₁ : Outcome (Tails d) (drop n u) r = rw (e, one-add n) at o in
        carry (Tails d) (Tails d) s (32 ∷ take n u) (drop n u) (1 + n) (e ∙ ap (λ z. 32 ∷ z) (sym (take-append-drop n u))) (omega (arith, length-take-le n u m.fits))
        (λ w h. (number (take n u) h.0, (g, h.1), ap (λ z. 32 ∷ (take n u ++ z)) h.2))
        (λ w k x st q h. strip_number g k x st q.0 q.1 (ap (λ z. z ++ k) (sym q.2) ∙ h)) r o₁

    -- only the front part of one, as a minus
    strip_part : 0 < n → (k x : List ℕ) → Starts u x → (a : Args) → ShapedArgs d a → closed a ++ k ≡ 32 ∷ x → (w' : List ℕ) × (k' : List ℕ) × Then Number (Tails d) w' × (w' ++ k' ≡ x)
    strip_part z k x st none sh h = absurd (omega (arith, ap (λ z. get_or z 0 0) h))
    strip_part z k x st (number t a) sh h = let h₁ : (t ++ closed a) ++ k ≡ x = cc in (t ++ closed a, k, (t, closed a, sh.0, (a, sh.1, refl), refl), h₁)
    strip_part z k x st (inner f a) sh h =
        let h₁ : (written f ++ closed a) ++ k ≡ x = cc in
        absurd (not_form u n m z (sym st.2 ∙ ap (λ y. get_or y 0 0) (sym (simp append_assoc at h₁)) ∙ form_first f (closed a ++ k)))

    pub args_part : 0 < n → (Number (take n u) → ⊥) → Fault (Tails d) s (1 + n)
    args_part z no' =
        carry_fault (Tails d) (Then Number (Tails d)) s (32 ∷ []) u 1 e refl
        (λ w g. ([], (number g.0 g.3.0, (g.2, g.3.1), ap (λ z. 32 ∷ z) (append-nil w ∙ g.4 ∙ ap (λ z. g.0 ++ z) g.3.2))))
        (λ w k x st q h. strip_part z k x st q.0 q.1 (ap (λ z. z ++ k) (sym q.2) ∙ h)) n
        (token_fault Inside Number (Tails d) number_inside (tail_ends d) u n m no' (41 ∷ []) (none, tt, refl))

  -- a space and a form that was read
  strip_inner : (f : Form) → Shaped d f → (k x : List ℕ) (a : Args) → ShapedArgs d a → closed a ++ k ≡ 32 ∷ (written f ++ x) → (w' : List ℕ) × (k' : List ℕ) × Tails d w' × (w' ++ k' ≡ x)
  strip_inner f sf k x none sh h = absurd (omega (arith, ap (λ z. get_or z 0 0) h))
  strip_inner f sf k x (number t a) sh h =
      let h₁ : (t ++ closed a) ++ k ≡ written f ++ x = cc in
      absurd (not_both t (closed a ++ k) x f sh.0 (simp append_assoc at h₁))
  strip_inner f sf k x (inner g a) sh h =
      let h₁ : (written g ++ closed a) ++ k ≡ written f ++ x = cc in
      let r = same_form g f d d (closed a ++ k) x sh.0 sf (simp append_assoc at h₁) in
      (closed a, k, (a, sh.1, refl), r.1)

  pub args_inner : s ≡ 32 ∷ u → (n : ℕ) → Read (Forms d) u n → Carries (Tails d) s (1 + n)
  args_inner e n i r o =
      let f = i.is.0 in
      let left : drop n u ≡ i.back = rw i.cut (drop_at i.front i.back n i.long) in
      let o₁ : Outcome (Tails d) i.back r = rw (e, one-add n, left) at o in
      let whole : s ≡ (32 ∷ i.front) ++ i.back = e ∙ ap (λ z. 32 ∷ z) i.cut in
      carry (Tails d) (Tails d) s (32 ∷ i.front) i.back (1 + n) whole (omega (arith, i.long))
      (λ w g. (inner f g.0, (i.is.1, g.1), ap₂ (λ y z. 32 ∷ (y ++ z)) i.is.2 g.2))
      (λ w k x st g h. strip_inner f i.is.1 k x g.0 g.1 (ap (λ z. z ++ k) (sym g.2) ∙ h ∙ ap (λ z. 32 ∷ (z ++ x)) i.is.2)) r o₁

  -- a space, and then what begins no number
  module _ (e : s ≡ 32 ∷ u) (m : Munch Number u 0) where
    no_number : (t y x : List ℕ) → Number t → Starts u x → t ++ y ≡ x → ⊥
    no_number [] y x g st h = ⊎_elim (λ p. omega (arith, p.0)) (λ p. omega (arith, ap length p.3)) g
    no_number (b ∷ t) y x g st h =
        let c : b ≡ get_or u 0 0 = ap (λ z. get_or z 0 0) h ∙ st.2 in
        m.stops st.0 (t, rw (take_more u 0 0 st.0, ← c) g)

    strip_fault : (k x : List ℕ) → Starts u x → (a : Args) → ShapedArgs d a → closed a ++ k ≡ 32 ∷ x → (w' : List ℕ) × (k' : List ℕ) × Forms d w' × (w' ++ k' ≡ x)
    strip_fault k x st none sh h = absurd (omega (arith, ap (λ z. get_or z 0 0) h))
    strip_fault k x st (number t a) sh h =
        let h₁ : (t ++ closed a) ++ k ≡ x = cc in
        absurd (no_number t (closed a ++ k) x sh.0 st (simp append_assoc at h₁))
    strip_fault k x st (inner g a) sh h =
        let h₁ : (written g ++ closed a) ++ k ≡ x = cc in
        (written g, closed a ++ k, (g, sh.0, refl), simp append_assoc at h₁)

    pub args_fault : (n : ℕ) → Fault (Forms d) u n → Fault (Tails d) s (1 + n)
    args_fault n o =
        carry_fault (Tails d) (Forms d) s (32 ∷ []) u 1 e refl
        (λ w g. (41 ∷ [], (inner g.0 none, (g.1, tt), ap (λ z. 32 ∷ (z ++ 41 ∷ [])) g.2)))
        (λ w k x st g h. strip_fault k x st g.0 g.1 (ap (λ z. z ++ k) (sym g.2) ∙ h)) n o

    -- no form may stand here
    pub args_deep : d ≡ 0 → Fault (Tails d) s 1
    args_deep z =
        record {
          front = 32 ∷ [];
          back = u;
          cut = e;
          long = refl;
          more = 48 ∷ (41 ∷ []);
          can = (number (48 ∷ []) none, (digit_0, tt), refl);
          stuck = λ b q w k r i g h.
              let st : Starts u (b ∷ r) = rw i (omega arith, omega arith, refl) in
              let t = strip_fault k (b ∷ r) st g.0 g.1 (ap (λ z. z ++ k) (sym g.2) ∙ h) in
              shallow t.2.0 t.2.1 z;
        }

-- What the reader of an argument answers is, after the space before it, an answer for the arguments.
module _ (d : ℕ) (s u : List ℕ) (e : s ≡ 32 ∷ u) where
  abbrev pub Argument : Result ℕ ℕ → Type 0
  Argument (Ok n) = (n ≤ length u) × Carries (Tails d) s (1 + n)
  Argument (Err n) = Fault (Tails d) s (1 + n)

  pub number_answers : (r : Result ℕ ℕ) → Token Number u r → (r ≡ Err 0 → d ≡ 0) → Argument r
  number_answers (Ok n) i deep = (i.0.fits, args_number d s u e n i.0 i.1)
  number_answers (Err zero) i deep = args_deep d s u e i.0 (deep refl)
  number_answers (Err (suc n)) i deep = args_part d s u e (suc n) i.0 (omega arith) i.1

  pub form_answers : (r : Result ℕ ℕ) → Token Number u (Err 0) → Outcome (Forms d) u r → Argument r
  form_answers (Ok n) i o = (read_fits (Forms d) u n o, args_inner d s u e n o)
  form_answers (Err n) i o = args_fault d s u e i.0 n o

-- and so one for all of s
module _ (d : ℕ) (s : List ℕ) (at : ℕ) (e : drop at s ≡ 32 ∷ drop (at + 1) s) (carries : Carries (Tails d) s at) where
  pub argument_ends : (r : Result ℕ ℕ) → Argument d (drop at s) (drop (at + 1) s) e r → false ≡ is_ok r → Outcome (Tails d) s (shift (at + 1) r)
  argument_ends (Ok n) a h = absurd (false≢true h)
  argument_ends (Err n) a h = rw add_assoc (carries (Err (1 + n)) a)

  pub argument_goes : (n : ℕ) → at ≤ length s → Argument d (drop at s) (drop (at + 1) s) e (Ok n) → (at + 1 + n ≤ length s) × Carries (Tails d) s (at + 1 + n)
  argument_goes n h a =
      let more : at < length s = omega (arith, ap length e, length-drop at s) in
      (omega (arith, a.0, length-drop (at + 1) s), carries_more (Tails d) s at (1 + n) (at + 1 + n) (omega arith) carries a.1)

smallest : (d : ℕ) → 0 < d → Forms d (40 ∷ (97 ∷ (41 ∷ [])))
smallest d p = (form (97 ∷ []) none, (p, letter_a, tt), refl)

form_begins : (d : ℕ) (v k : List ℕ) → Forms d v → get_or (v ++ k) 0 0 ≡ 40
form_begins d v k g = rw g.2 (form_first g.0 k)

module _ (d : ℕ) (deep : 0 < d) (s u : List ℕ) where
  pub form_end : s ≡ [] → Fault (Forms d) s 0
  form_end e = at_end (Forms d) s (40 ∷ (97 ∷ (41 ∷ []))) e (smallest d deep)

  pub form_other : (c : ℕ) → s ≡ c ∷ u → (c ≡ 40 → ⊥) → Fault (Forms d) s 0
  form_other c e n = at_byte (Forms d) s (40 ∷ (97 ∷ (41 ∷ []))) c u e (smallest d deep) (λ v k g h. n (sym h ∙ form_begins d v k g))

  -- "(" and what begins a word
  module _ (e : s ≡ 40 ∷ u) (n : ℕ) (m : Munch Word u n) where
    strip_form : (k x : List ℕ) (f : Form) → Shaped d f → written f ++ k ≡ 40 ∷ x → (w' : List ℕ) × (k' : List ℕ) × Then Word (Tails (d - 1)) w' × (w' ++ k' ≡ x)
    strip_form k x (form t a) sh h = let h₁ : (t ++ closed a) ++ k ≡ x = cc in (t ++ closed a, k, (t, closed a, sh.1, (a, sh.2, refl), refl), h₁)

    after_bracket : (r : Result ℕ ℕ) → Outcome (Then Word (Tails (d - 1))) u r → Outcome (Forms d) s (shift 1 r)
    after_bracket =
        carry (Forms d) (Then Word (Tails (d - 1))) s (40 ∷ []) u 1 e refl
        (λ w g. (form g.0 g.3.0, (deep, g.2, g.3.1), ap (λ z. 40 ∷ z) (g.4 ∙ ap (λ z. g.0 ++ z) g.3.2)))
        (λ w k x st q h. strip_form k x q.0 q.1 (ap (λ z. z ++ k) (sym q.2) ∙ h))

    pub form_wordless : (Word (take n u) → ⊥) → Fault (Forms d) s (1 + n)
    form_wordless no' = after_bracket (Err n) (token_fault Inside Word (Tails (d - 1)) word_inside (tail_ends (d - 1)) u n m no' (41 ∷ []) (none, tt, refl))

    pub form_goes : Word (take n u) → (r : Result ℕ ℕ) → Outcome (Tails (d - 1)) (drop n u) r → Outcome (Forms d) s (shift 1 (shift n r))
    form_goes g r o = after_bracket (shift n r) (token_goes Inside Word (Tails (d - 1)) word_inside (tail_ends (d - 1)) u n m g r o)
