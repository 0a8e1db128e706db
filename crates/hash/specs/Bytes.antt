-- Numbers and strings of bytes, as the HS1-SIV draft writes them: lowest byte first.
use Rattle.std.specs.Prelude.{ℕ, zero, suc, ◌+◌, ◌-◌, ◌*◌, ◌/◌, ◌%◌, List, [], ◌∷◌, ◌++◌, length, take, drop, replicate}

-- the number that bytes write
abbrev pub number : List ℕ → ℕ
number [] = 0
number (b ∷ bs) = b + 256 * number bs

-- toStr(n, v): the low n bytes of v
abbrev pub str : ℕ → ℕ → List ℕ
str zero v = []
str (suc n) v = v % 256 ∷ str n (v / 256)

-- pad(n, s): zeros behind s, as few as make its length a multiple of n
abbrev pub pad : ℕ → List ℕ → List ℕ
pad n s = s ++ replicate ((n - length s % n) % n) 0

-- the first count numbers of n bytes each in s
abbrev pub ints_of : (n count : ℕ) → List ℕ → List ℕ
ints_of n zero s = []
ints_of n (suc count) s = number (take n s) ∷ ints_of n count (drop n s)

-- toInts(n, s): s as numbers of n bytes each
abbrev pub ints : ℕ → List ℕ → List ℕ
ints n s = ints_of n (length s / n) s
