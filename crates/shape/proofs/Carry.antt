-- From an answer for what is left after a part p to an answer for the whole, for any two sets of writings.
use Rattle.std.proofs.Common.{◌≡◌, ℕ, ◌+◌, ◌-◌, ◌<◌, ◌≤◌, List, [], ◌∷◌, ◌++◌, length, get_or, take, drop, Ok, Err, Result, sym, refl, ap, ◌∙◌, append_assoc, arith, length-append}
use Rattle.std.proofs.lemmas.List.{append-nil, drop-drop, drop_more, take_rest, length-drop, get_or-drop}
use Rattle.std.proofs.lemmas.List.Prefix.{front_fits}
use Rattle.shape.specs.Outcome.{Read, Fault, Outcome, shift, Carries}

-- x is not empty, and begins with the byte that u begins with
abbrev pub Starts : List ℕ → List ℕ → Type 0
Starts u x = (0 < length u) × (0 < length x) × (get_or x 0 0 ≡ get_or u 0 0)

starts : (front : List ℕ) (b : ℕ) (q r : List ℕ) → Starts (front ++ b ∷ q) (front ++ b ∷ r)
starts [] b q r = (omega arith, omega arith, refl)
starts (c ∷ front) b q r = (omega arith, omega arith, refl)

-- every writing of G that goes on from p as p ++ u does is, after p, a writing of H
abbrev pub Strips : (List ℕ → Type 0) → (List ℕ → Type 0) → List ℕ → List ℕ → Type 0
Strips G H p u = (w k x : List ℕ) → Starts u x → G w → w ++ k ≡ p ++ x → (w' : List ℕ) × (k' : List ℕ) × H w' × (w' ++ k' ≡ x)

module _ (G H : List ℕ → Type 0) (s p u : List ℕ) (n : ℕ) (split : s ≡ p ++ u) (long : length p ≡ n) where
  carry_read : ((w : List ℕ) → H w → G (p ++ w)) → (m : ℕ) → Read H u m → Read G s (n + m)
  carry_read build m o =
      record {
        front = p ++ o.front;
        back = o.back;
        cut = split ∙ ap (λ z. p ++ z) o.cut ∙ sym (append_assoc p o.front o.back);
        long = simp length-append (omega (arith, o.long));
        is = build o.front o.is;
      }

  pub carry_fault : ((w : List ℕ) → H w → (z : List ℕ) × G (p ++ (w ++ z))) → Strips G H p u → (m : ℕ) → Fault H u m → Fault G s (n + m)
  carry_fault extend strip m o =
      let z = extend (o.front ++ o.more) o.can in
      record {
        front = p ++ o.front;
        back = o.back;
        cut = split ∙ ap (λ z. p ++ z) o.cut ∙ sym (append_assoc p o.front o.back);
        long = simp length-append (omega (arith, o.long));
        more = o.more ++ z.0;
        can = simp append_assoc (simp append_assoc at z.1);
        stuck = λ b q w k r e g h.
            let st : Starts u (o.front ++ b ∷ r) = rw (o.cut, e) (starts o.front b q r) in
            let t = strip w k (o.front ++ b ∷ r) st g (simp append_assoc at h) in
            o.stuck b q t.0 t.1 r e t.2 t.3;
      }

  pub carry : ((w : List ℕ) → H w → G (p ++ w)) → Strips G H p u → (r : Result ℕ ℕ) → Outcome H u r → Outcome G s (shift n r)
  carry build strip (Ok m) o = carry_read build m o
  carry build strip (Err m) o = carry_fault (λ w h. ([], rw append-nil (build w h))) strip m o

-- one step after another
pub shift_shift : (m n : ℕ) (r : Result ℕ ℕ) → shift m (shift n r) ≡ shift (m + n) r
shift_shift m n (Ok k) = ap Ok (omega arith)
shift_shift m n (Err k) = ap Err (omega arith)

shift_zero : (r : Result ℕ ℕ) → shift 0 r ≡ r
shift_zero (Ok k) = ap Ok (omega arith)
shift_zero (Err k) = ap Err (omega arith)

pub carries_none : (G : List ℕ → Type 0) (s : List ℕ) → Carries G s 0
carries_none G s r o = rw shift_zero o

pub carries_more : (G : List ℕ → Type 0) (s : List ℕ) (m n k : ℕ) → m + n ≡ k → Carries G s m → Carries G (drop m s) n → Carries G s k
carries_more G s m n k e a b r o =
    let o₁ : Outcome G (drop n (drop m s)) r = rw (drop-drop n m s, e) o in
    rw (← e, ← shift_shift m n r) (a (shift n r) (b r o₁))

-- what was read, or stands before the fault, is in the input
pub read_fits : (G : List ℕ → Type 0) (s : List ℕ) (n : ℕ) → Read G s n → n ≤ length s
read_fits G s n o = omega (arith, front_fits s o.front o.back o.cut, o.long)

-- the byte at a place, and what is left after it
pub drop_byte : (s : List ℕ) (at c : ℕ) → at < length s → get_or s at 0 ≡ c → drop at s ≡ c ∷ drop (at + 1) s
drop_byte s at c l e = drop_more s at 0 l ∙ ap (λ z. z ∷ drop (at + 1) s) e

-- the byte that what is left begins with, as a reader of it finds it
pub rest_byte : (s : List ℕ) (at c : ℕ) → 1 ≤ length (take (length s - at) (drop at s)) → get_or (take (length s - at) (drop at s)) 0 0 ≡ c → (at < length s) × (drop at s ≡ c ∷ drop (at + 1) s) × (get_or s at 0 ≡ c)
rest_byte s at c l e =
    let more : at < length s = omega (arith, ap length (take_rest s at), length-drop at s) in
    let first : get_or s at 0 ≡ c = ap (λ i. get_or s i 0) (omega arith) ∙ sym (get_or-drop at s 0 0) ∙ ap (λ z. get_or z 0 0) (sym (take_rest s at)) ∙ e in
    (more, drop_byte s at c more first, first)

-- what is left after that byte
pub rest_after : (s : List ℕ) (at : ℕ) → take (length (take (length s - at) (drop at s)) - 1) (drop 1 (take (length s - at) (drop at s))) ≡ drop (at + 1) s
rest_after s at = take_rest (take (length s - at) (drop at s)) 1 ∙ ap (λ z. drop 1 z) (take_rest s at) ∙ drop-drop 1 at s

pub byte_rest : (s : List ℕ) (at c : ℕ) → at < length s → get_or s at 0 ≡ c → (1 ≤ length (take (length s - at) (drop at s))) × (get_or (take (length s - at) (drop at s)) 0 0 ≡ c)
byte_rest s at c l e =
    (omega (arith, ap length (take_rest s at), length-drop at s), ap (λ z. get_or z 0 0) (take_rest s at ∙ drop_byte s at c l e))
