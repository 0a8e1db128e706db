-- NH: a sum of products, of key words k and words m. The sums are plain sums of naturals.
use Rattle.std.specs.Prelude.{ℕ, zero, suc, ◌+◌, ◌*◌, ◌/◌, min, List, length, slice_index}

-- a key word and a word, added
unfoldable pub keyed : (k m : List ℕ) → ℕ → ℕ
keyed k m i = slice_index k i + slice_index m i

-- the group j: four words of each
unfoldable pub group : (k m : List ℕ) → ℕ → ℕ
group k m j =
    keyed k m (4 * j) * keyed k m (4 * j + 2)
    + keyed k m (4 * j + 1) * keyed k m (4 * j + 3)

-- the groups below n
abbrev pub groups : (k m : List ℕ) → ℕ → ℕ
groups k m zero = 0
groups k m (suc n) = groups k m n + group k m n

-- over as many words as both have
unfoldable pub nh : (k m : List ℕ) → ℕ
nh k m = groups k m (min (length k) (length m) / 4)
