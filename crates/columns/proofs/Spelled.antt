-- Bytes that a text spells, read into a buffer that is as long as they are.
use Rattle.std.proofs.Common.{◌≡◌, ℕ, ◌+◌, ◌-◌, ◌/◌, ◌≤◌, List, [], ◌++◌, length, take, drop, Some, sym, ap, ◌∙◌, subst, arith, append-nil}
use Rattle.std.specs.List.{AllByRecursion}
use Rattle.std.proofs.lemmas.List.{drop_all, take_all, take_at, length-append, length-drop}
use borrow.Rule.Slice.PartMut.{post_of}
use Rattle.sealed.specs.Hex.{Byte, hex_of}
use Rattle.sealed.specs.Whole.{HexRead}
use Rattle.sealed.proofs.Hexes.{length_hex}

pub spelled : (text before after : List ℕ) (n : ℕ) → HexRead text before after (Some n) → length before ≡ length text / 2 → AllByRecursion Byte after × (text ≡ hex_of after)
spelled text before after n r half =
    let bytes = r.0 in
    let count : n ≡ length before = omega (arith, ap length r.2, length_hex bytes, r.3) in
    let same : after ≡ bytes = r.5 ∙ ap (λ z. bytes ++ z) (drop_all n before (omega arith)) ∙ append-nil bytes in
    (subst (λ z. AllByRecursion Byte z) (sym same) r.1, r.2 ∙ ap hex_of (sym same))

-- the buffer is all that the vector holds
pub held : (after items : List ℕ) (len : ℕ) → length after ≡ len → take len (after ++ drop (length after) items) ≡ after
held after items len e = take_at after (drop (length after) items) len e

-- places behind the bytes that were there leave those as they are
pub front_stays : (was zeros now : List ℕ) (at n : ℕ) → length was ≡ at → at ≤ n → now ≡ take n was ++ zeros → take at now ≡ was
front_stays was zeros now at n l le is = rw (is, take_all n was (omega (arith, l))) (take_at was zeros at l)

-- what is written into all those places
pub appended : (was now out items : List ℕ) (at len : ℕ) → take at now ≡ was → length was ≡ at → at + length out ≡ len → length now ≡ len → take len ((take at now ++ (out ++ post_of at (length now - at) now)) ++ drop (length (take at now ++ (out ++ post_of at (length now - at) now))) items) ≡ was ++ out
appended was now out items at len e l n m =
    let z : post_of at (length now - at) now ≡ [] = drop_all (length now - at) (drop at now) (omega (arith, length-drop at now)) in
    rw (z, append-nil out, e) (held (was ++ out) items len (omega (arith, length-append was out, l, n)))
