-- Two writings that share what was read of them are the same writing: facts on lists and forms alone.
use Rattle.std.proofs.Common.{◌≡◌, ℕ, ◌-◌, ◌<◌, List, [], ◌∷◌, ◌++◌, length, get_or, refl, ap, ◌∙◌, ap₂, ⊎_elim, append_assoc, arith}
use Rattle.std.specs.List.{AllByRecursion}
use Rattle.std.proofs.ByRecursion.{All-weaker}
use Rattle.shape.specs.Form.{Form, Args, form, none, number, inner, written, closed, Letter, Digit, Word, Unsigned, Number, Shaped, ShapedArgs, Unique, Tails}
use Rattle.shape.specs.Limits.{deepest}
use Rattle.shape.proofs.Tokens.{parts_agree}

-- a byte of a word or a number: none that stands after one
abbrev pub Inside : ℕ → Type 0
Inside b = (b ≡ 32 → ⊥) × (b ≡ 41 → ⊥)

pub word_inside : (w : List ℕ) → Word w → AllByRecursion Inside w
word_inside w h = All-weaker Letter Inside (λ x l. omega arith) w h.2

unsigned_inside : (t : List ℕ) → Unsigned t → AllByRecursion Inside t
unsigned_inside t h = All-weaker Digit Inside (λ x l. omega arith) t h.2

pub number_inside : (t : List ℕ) → Number t → AllByRecursion Inside t
number_inside t h = ⊎_elim (unsigned_inside t) (λ p. rw p.3 (omega arith, unsigned_inside p.0 p.1)) h

-- what follows a word or a number
pub tail_ends : (d : ℕ) (v : List ℕ) → Tails d v → (0 < length v) × (Inside (get_or v 0 0) → ⊥)
tail_ends d v g = rw g.2 (ends g.0)
  where
    ends : (a : Args) → (0 < length (closed a)) × (Inside (get_or (closed a) 0 0) → ⊥)
    ends none = (omega arith, λ i. i.1 refl)
    ends (number t a) = (omega arith, λ i. i.0 refl)
    ends (inner f a) = (omega arith, λ i. i.0 refl)

no_inside : (a : Args) (k : List ℕ) → Inside (get_or (closed a ++ k) 0 0) → ⊥
no_inside none k i = i.1 refl
no_inside (number t a) k i = i.0 refl
no_inside (inner f a) k i = i.0 refl

not_empty : (a : Args) (k : List ℕ) → 0 < length (closed a ++ k)
not_empty none k = omega arith
not_empty (number t a) k = omega arith
not_empty (inner f a) k = omega arith

same_token : (t t' : List ℕ) (a b : Args) (k k' : List ℕ) → AllByRecursion Inside t → AllByRecursion Inside t' → (t ++ closed a) ++ k ≡ (t' ++ closed b) ++ k' → (t ≡ t') × (closed a ++ k ≡ closed b ++ k')
same_token t t' a b k k' i i' e = parts_agree Inside t t' (closed a ++ k) (closed b ++ k') i i' (no_inside a k) (not_empty a k) (no_inside b k') (not_empty b k') (simp append_assoc at e)

pub form_first : (f : Form) (x : List ℕ) → get_or (written f ++ x) 0 0 ≡ 40
form_first (form w a) x = refl

unsigned_first : (t x : List ℕ) → Unsigned t → Digit (get_or (t ++ x) 0 0)
unsigned_first [] x n = absurd (omega (arith, n.0))
unsigned_first (d ∷ t) x n = n.2.0

pub number_first : (t x : List ℕ) → Number t → get_or (t ++ x) 0 0 ≡ 40 → ⊥
number_first t x h e = ⊎_elim (λ p. omega (arith, unsigned_first t x p)) (λ p. omega (arith, rw p.3 at e)) h

-- a number where a form would stand
pub not_both : (t x y : List ℕ) (f : Form) → Number t → t ++ x ≡ written f ++ y → ⊥
not_both t x y f n e = number_first t x n (ap (λ z. get_or z 0 0) e ∙ form_first f y)

-- Nothing that follows a writing can make it another: it is read in one way.
mutual
  pub same_form : (f g : Form) (d d' : ℕ) (k k' : List ℕ) → Shaped d f → Shaped d' g → written f ++ k ≡ written g ++ k' → (f ≡ g) × (k ≡ k')
  same_form (form w a) (form w' a') d d' k k' s s' e =
      let e₁ : (w ++ closed a) ++ k ≡ (w' ++ closed a') ++ k' = cc in
      let r = same_token w w' a a' k k' (word_inside w s.1) (word_inside w' s'.1) e₁ in
      let r₁ = same_args a a' (d - 1) (d' - 1) k k' s.2 s'.2 r.1 in
      (ap₂ form r.0 r₁.0, r₁.1)

  pub same_args : (a b : Args) (d d' : ℕ) (k k' : List ℕ) → ShapedArgs d a → ShapedArgs d' b → closed a ++ k ≡ closed b ++ k' → (a ≡ b) × (k ≡ k')
  same_args none none d d' k k' s s' e = (refl, cc)
  same_args none (number t b) d d' k k' s s' e = absurd (omega (arith, ap (λ z. get_or z 0 0) e))
  same_args none (inner f b) d d' k k' s s' e = absurd (omega (arith, ap (λ z. get_or z 0 0) e))
  same_args (number t a) none d d' k k' s s' e = absurd (omega (arith, ap (λ z. get_or z 0 0) e))
  same_args (number t a) (number t' b) d d' k k' s s' e =
      let e₁ : (t ++ closed a) ++ k ≡ (t' ++ closed b) ++ k' = cc in
      let r = same_token t t' a b k k' (number_inside t s.0) (number_inside t' s'.0) e₁ in
      let r₁ = same_args a b d d' k k' s.1 s'.1 r.1 in
      (ap₂ number r.0 r₁.0, r₁.1)
  same_args (number t a) (inner f b) d d' k k' s s' e =
      let e₁ : (t ++ closed a) ++ k ≡ (written f ++ closed b) ++ k' = cc in
      absurd (not_both t (closed a ++ k) (closed b ++ k') f s.0 (simp append_assoc at e₁))
  same_args (inner f a) none d d' k k' s s' e = absurd (omega (arith, ap (λ z. get_or z 0 0) e))
  same_args (inner f a) (number t b) d d' k k' s s' e =
      let e₁ : (t ++ closed b) ++ k' ≡ (written f ++ closed a) ++ k = cc in
      absurd (not_both t (closed b ++ k') (closed a ++ k) f s'.0 (simp append_assoc at e₁))
  same_args (inner f a) (inner g b) d d' k k' s s' e =
      let e₁ : (written f ++ closed a) ++ k ≡ (written g ++ closed b) ++ k' = cc in
      let r = same_form f g d d' (closed a ++ k) (closed b ++ k') s.0 s'.0 (simp append_assoc at e₁) in
      let r₁ = same_args a b d d' k k' s.1 s'.1 r.1 in
      (ap₂ inner r.0 r₁.0, r₁.1)

pub unique : Unique
unique f g s s' e = (same_form f g deepest deepest (10 ∷ []) (10 ∷ []) s s' e).0
