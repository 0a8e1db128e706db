-- Four elements of a list at once.
use Rattle.std.proofs.Common.{◌≡◌, ℕ, ◌+◌, ◌≤◌, List, ◌∷◌, length, get_or, drop, arith}
use Rattle.std.proofs.lemmas.List.{drop_more}

-- four elements and the rest
pub drop_four : (xs : List ℕ) (i : ℕ) → i + 4 ≤ length xs → drop i xs ≡ get_or xs i 0 ∷ get_or xs (i + 1) 0 ∷ get_or xs (i + 2) 0 ∷ get_or xs (i + 3) 0 ∷ drop (i + 4) xs
drop_four xs i h =
    let a : (i + 1) + 1 ≡ i + 2 = omega arith in
    let b : (i + 2) + 1 ≡ i + 3 = omega arith in
    let c : (i + 3) + 1 ≡ i + 4 = omega arith in
    let d0 = drop_more xs i 0 (omega arith) in
    let d1 = drop_more xs (i + 1) 0 (omega arith) in
    let d2 = drop_more xs (i + 2) 0 (omega arith) in
    let d3 = drop_more xs (i + 3) 0 (omega arith) in
    cc
