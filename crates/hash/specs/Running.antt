-- What the running values of a hash are reckoned by.
use Rattle.std.specs.Prelude.{ℕ, ◌*◌, ◌%◌, ◌^◌, ◌<◌, List, take, drop, slice_index}
use Rattle.hash.specs.declared.HashKeys.{HashKeys}
use Rattle.hash.specs.Hash.{prime}

-- the sixteen words of kN that hash i uses
abbrev pub nh_part : HashKeys → ℕ → List ℕ
nh_part keys i = take 16 (drop (4 * i) keys.k_n)

-- number i of kP, of which twenty digits of three bits count
abbrev pub poly_point : HashKeys → ℕ → ℕ
poly_point keys i = slice_index keys.k_p i % 2 ^ 60

-- each running value is below the prime
abbrev pub Below : List ℕ → Type 0
Below running = (i : ℕ) → slice_index running i < prime
