-- Writing the bytes w over the front of a buffer, part after part.
use Rattle.std.proofs.Common.{◌≡◌, ℕ, ◌+◌, ◌-◌, ◌≤◌, List, [], ◌∷◌, ◌++◌, length, get_or, take, drop, set, sym, refl, ap, ◌∙◌, ap₂, append_assoc, arith, length-append}
use borrow.Rule.Slice.PartMut.{put_mid}
use Rattle.std.proofs.lemmas.List.{append-nil, take-append-drop, length-take-le, length-drop, take_all, drop_all, take_at, drop_at, drop-drop, drop_more, set_at}

-- The first bytes of w, up to a place, stand in the buffer, the rest of it is as before, and the rest of w is still to come.
pub record Over (w before out : List ℕ) (at : ℕ) (rest : List ℕ) : Type 0 where
  pub within : at ≤ length w
  pub left : drop at w ≡ rest
  pub holds : out ≡ take at w ++ drop at before

pub over_none : (w before : List ℕ) → Over w before before 0 w
over_none w before = record { within = omega arith; left = refl; holds = refl }

module _ (w before out : List ℕ) (at : ℕ) where
  cut : (p rest : List ℕ) → drop at w ≡ p ++ rest → w ≡ (take at w ++ p) ++ rest
  cut p rest e = sym (take-append-drop at w) ∙ ap (λ z. take at w ++ z) e ∙ sym (append_assoc (take at w) p rest)

  long : (p : List ℕ) → at ≤ length w → length (take at w ++ p) ≡ at + length p
  long p h = length-append (take at w) p ∙ ap (λ n. n + length p) (length-take-le at w h)

  goes : (p rest : List ℕ) (n : ℕ) → at ≤ length w → n ≡ length p → drop at w ≡ p ++ rest → (take (at + n) w ≡ take at w ++ p) × (drop (at + n) w ≡ rest)
  goes p rest n h len e =
      let l : length (take at w ++ p) ≡ at + n = long p h ∙ ap (λ m. at + m) (sym len) in
      (ap (take (at + n)) (cut p rest e) ∙ take_at (take at w ++ p) rest (at + n) l, ap (drop (at + n)) (cut p rest e) ∙ drop_at (take at w ++ p) rest (at + n) l)

  fits : (p rest : List ℕ) → at ≤ length w → drop at w ≡ p ++ rest → at + length p ≤ length w
  fits p rest h e = omega (arith, ap length (cut p rest e), length-append (take at w ++ p) rest, long p h)

  front : at ≤ length w → out ≡ take at w ++ drop at before → take at out ≡ take at w
  front h e = ap (take at) e ∙ take_at (take at w) (drop at before) at (length-take-le at w h)

  back : at ≤ length w → out ≡ take at w ++ drop at before → drop at out ≡ drop at before
  back h e = ap (drop at) e ∙ drop_at (take at w) (drop at before) at (length-take-le at w h)

  same_length : at ≤ length w → length w ≤ length before → out ≡ take at w ++ drop at before → length out ≡ length before
  same_length h room e = ap length e ∙ length-append (take at w) (drop at before) ∙ omega (arith, length-take-le at w h, length-drop at before)

  -- there is room for the next part
  pub over_room : (p rest : List ℕ) → length w ≤ length before → Over w before out at (p ++ rest) → at + length p ≤ length out
  over_room p rest room o = omega (arith, fits p rest o.within o.left, same_length o.within room o.holds)

  -- the next part, written over the front of what is left of the buffer
  pub over_part : (p rest last : List ℕ) (n k : ℕ) → Over w before out at (p ++ rest) → n ≡ length p → k ≡ length out - at → last ≡ p ++ drop n (take k (drop at out)) → Over w before (put_mid at k out last) (at + n) rest
  over_part p rest last n k o len kk is =
      let g = goes p rest n o.within len o.left in
      let few : length (drop at out) ≤ k = omega (arith, length-drop at out) in
      let b = back o.within o.holds in
      let l : last ≡ p ++ drop (at + n) before = is ∙ ap (λ z. p ++ drop n z) (take_all k (drop at out) few ∙ b) ∙ ap (λ z. p ++ z) (drop-drop n at before) in
      let e : put_mid at k out last ≡ take at w ++ (last ++ []) = ap₂ (λ x y. x ++ (last ++ y)) (front o.within o.holds) (drop_all k (drop at out) few) in
      record {
        within = omega (arith, fits p rest o.within o.left);
        left = g.1;
        holds = e ∙ ap (λ z. take at w ++ z) (append-nil last ∙ l) ∙ sym (append_assoc (take at w) p (drop (at + n) before)) ∙ ap (λ z. z ++ drop (at + n) before) (sym g.0);
      }

  -- the next byte
  pub over_byte : (b : ℕ) (rest : List ℕ) → length w ≤ length before → Over w before out at (b ∷ rest) → Over w before (set out at b) (at + 1) rest
  over_byte b rest room o =
      let g = goes (b ∷ []) rest 1 o.within refl o.left in
      let f = fits (b ∷ []) rest o.within o.left in
      let d = drop_more before at 0 (omega (arith, f)) in
      let h : out ≡ take at w ++ get_or before at 0 ∷ drop (at + 1) before = o.holds ∙ ap (λ z. take at w ++ z) d in
      record {
        within = omega (arith, f);
        left = g.1;
        holds = ap (λ z. set z at b) h ∙ set_at (take at w) (get_or before at 0) (drop (at + 1) before) b at (length-take-le at w o.within) ∙ sym (append_assoc (take at w) (b ∷ []) (drop (at + 1) before)) ∙ ap (λ z. z ++ drop (at + 1) before) (sym g.0);
      }

  -- all of it
  pub over_all : Over w before out at [] → (at ≡ length w) × (out ≡ w ++ drop (length w) before)
  over_all o =
      let n : at ≡ length w = omega (arith, ap length o.left, length-drop at w, o.within) in
      (n, o.holds ∙ ap₂ ◌++◌ (take_all at w (omega arith)) (ap (λ m. drop m before) n))
