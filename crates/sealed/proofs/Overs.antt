-- Writing one part after another over a buffer.
use Rattle.std.proofs.Common.{◌≡◌, ℕ, ◌+◌, ◌/◌, ◌<◌, ◌≤◌, List, [], ◌∷◌, ◌++◌, length, get_or, take, drop, set, sym, refl, ap, ◌∙◌, ap₂, append_assoc, arith, length-append}
use Rattle.std.proofs.lemmas.List.{take-append-drop, take_at, drop_at, drop-drop, drop_more, take_more, set_at, length-take-le, length-drop, take_all}
use Rattle.sealed.specs.Hex.{bytes_of}
use Rattle.sealed.specs.Writes.{over}

-- nothing written yet
pub over_none : (o : List ℕ) (at : ℕ) → o ≡ over o at []
over_none o at = let z : at + 0 ≡ at = omega arith in rw z (sym (take-append-drop at o))

pub length_over : (o : List ℕ) (at : ℕ) (w : List ℕ) → at + length w ≤ length o → length (over o at w) ≡ length o
length_over o at w h = simp (length-append, length-append, length-drop) (omega (arith, length-take-le at o (omega arith)))

-- a part after a part
pub over_over : (o : List ℕ) (at : ℕ) (w : List ℕ) (n : ℕ) (v : List ℕ) → n ≡ at + length w → n ≤ length o → over (over o at w) n v ≡ over o at (w ++ v)
over_over o at w n v e h =
    let long : length (take at o ++ w) ≡ n = simp length-append (omega (arith, length-take-le at o (omega arith))) in
    let split : over o at w ≡ (take at o ++ w) ++ drop n o = ap (λ i. take at o ++ (w ++ drop i o)) (sym e) ∙ sym (append_assoc (take at o) w (drop n o)) in
    let front : take n (over o at w) ≡ take at o ++ w = ap (take n) split ∙ take_at (take at o ++ w) (drop n o) n long in
    let back : drop (n + length v) (over o at w) ≡ drop (n + length v) o = sym (drop-drop (length v) n (over o at w)) ∙ ap (λ z. drop (length v) z) (ap (drop n) split ∙ drop_at (take at o ++ w) (drop n o) n long) ∙ drop-drop (length v) n o in
    let m : n + length v ≡ at + length (w ++ v) = omega (arith, length-append w v) in
    ap₂ (λ y z. y ++ (v ++ z)) front back ∙ append_assoc (take at o) w (v ++ drop (n + length v) o) ∙ ap (λ z. take at o ++ z) (sym (append_assoc w v (drop (n + length v) o)) ∙ ap (λ i. (w ++ v) ++ drop i o) m)

-- the bytes of digits, place by place
pub length_bytes : (digits : List ℕ) → length (bytes_of digits) ≡ length digits / 2
length_bytes [] = refl
length_bytes (c ∷ []) = refl
length_bytes (c ∷ (d ∷ digits)) = omega (arith, length_bytes digits)

pub front_all : (b o : List ℕ) (i : ℕ) → i ≡ length b → take i b ++ drop i o ≡ b ++ drop (length b) o
front_all b o i e = rw e (ap (λ z. z ++ drop (length b) o) (take_all (length b) b (omega arith)))

-- a list written over the front of another, one element more
pub front_more : (b o : List ℕ) (i x : ℕ) → i < length b → i < length o → x ≡ get_or b i 0 → set (take i b ++ drop i o) i x ≡ take (i + 1) b ++ drop (i + 1) o
front_more b o i x l m e =
    ap (λ z. set (take i b ++ z) i x) (drop_more o i 0 m) ∙ set_at (take i b) (get_or o i 0) (drop (i + 1) o) x i (length-take-le i b (omega arith)) ∙
    ap (λ y. take i b ++ y ∷ drop (i + 1) o) e ∙ sym (append_assoc (take i b) (get_or b i 0 ∷ []) (drop (i + 1) o)) ∙ ap (λ z. z ++ drop (i + 1) o) (sym (take_more b i 0 l))

-- a part written after what stands there already
pub put_more : (o m a : List ℕ) (at : ℕ) (w v : List ℕ) (n : ℕ) → n ≡ at + length w → n ≤ length o → m ≡ over o at w → a ≡ over m n v → a ≡ over o at (w ++ v)
put_more o m a at w v n e h is next = next ∙ ap (λ z. over z n v) is ∙ over_over o at w n v e h
