use Rattle.std.proofs.Common.{◌≡◌, ℕ, ◌+◌, ◌*◌, ◌/◌, ◌%◌, ◌<◌, ◌≤◌, List, [], ◌∷◌, ◌++◌, length, get_or, take, drop, set, sym, ap, ◌∙◌, ap₂, append_assoc, arith}
use Rattle.std.proofs.lemmas.List.{drop_more, take_more, set_at, length_push, length-take-le}
use Rattle.sealed.specs.Hex.{hex_of, hex_digit}
use Rattle.sealed.proofs.Hexes.{length_hex, hex_push}
use Rattle.sealed.proofs.hex.put_hex.Goals as goal

-- one byte more after w
push : (w o : List ℕ) (n x : ℕ) → length w ≡ n → n < length o → set (w ++ drop n o) n x ≡ (w ++ x ∷ []) ++ drop (n + 1) o
push w o n x long fits =
    ap (λ z. set (w ++ z) n x) (drop_more o n 0 fits) ∙ set_at w (get_or o n 0) (drop (n + 1) o) x n long ∙ sym (append_assoc w (x ∷ []) (drop (n + 1) o))

-- the two digits of one byte more
pair : (o out bytes : List ℕ) (i x y : ℕ) → 2 * length bytes ≤ length o → i < length bytes → out ≡ hex_of (take i bytes) ++ drop (2 * i) o → x ≡ hex_digit (get_or bytes i 0 / 16) → y ≡ hex_digit (get_or bytes i 0 % 16) →
    set (set out (2 * i) x) (2 * i + 1) y ≡ hex_of (take (i + 1) bytes) ++ drop (2 * (i + 1)) o
pair o out bytes i x y room l is hx hy =
    let w = hex_of (take i bytes) in
    let long : length w ≡ 2 * i = length_hex (take i bytes) ∙ ap (λ k. 2 * k) (length-take-le i bytes (omega arith)) in
    let one : set out (2 * i) x ≡ (w ++ x ∷ []) ++ drop (2 * i + 1) o = ap (λ z. set z (2 * i) x) is ∙ push w o (2 * i) x long (omega arith) in
    let two : set ((w ++ x ∷ []) ++ drop (2 * i + 1) o) (2 * i + 1) y ≡ ((w ++ x ∷ []) ++ y ∷ []) ++ drop (2 * i + 1 + 1) o = push (w ++ x ∷ []) o (2 * i + 1) y (omega (arith, long, length_push w x)) (omega arith) in
    let digits : (w ++ x ∷ []) ++ y ∷ [] ≡ hex_of (take (i + 1) bytes) = ap₂ (λ a b. (w ++ a ∷ []) ++ b ∷ []) hx hy ∙ sym (hex_push (take i bytes) (get_or bytes i 0)) ∙ ap hex_of (sym (take_more bytes i 0 l)) in
    ap (λ z. set z (2 * i + 1) y) one ∙ two ∙ ap₂ (λ z k. z ++ drop k o) digits (omega arith)

pub loop-i-preserved : goal.loop-i-preserved
loop-i-preserved c = pair c.args.out.now c.loop-i.out c.args.bytes.now c.loop-i.i _ _ c.requires c.loop-i-test.true c.loop-i.invariant c.digit.ensures c.digit-in-loop-i.ensures
