-- Numbers and the digits that write them.
use Rattle.std.specs.Prelude.{◌≡◌, ℕ, zero, suc, ◌+◌, ◌/◌, ◌%◌, ◌<◌, ◌≤◌, cond, List, [], ◌∷◌, ◌++◌, length, take, drop, ℤ, pos, negsuc, Some, None, Option, ◌≢◌, nat_lt, unsigned_abs}
use Rattle.shape.specs.declared.value.Leading.{Leading}
use Rattle.shape.specs.Form.{Number}
use Rattle.shape.specs.Limits.{bound}

-- The decimal digits of n, highest first, if there are at most k.
abbrev pub spelled : ℕ → ℕ → List ℕ
spelled zero n = []
spelled (suc k) n = cond (nat_lt n 10) ((48 + n) ∷ []) (spelled k (n / 10) ++ ((48 + n % 10) ∷ []))

-- The decimal digits of any n below 10 ^ 20, so of every 64-bit number: no leading zero, and just "0" for 0.
unfoldable pub figures : ℕ → List ℕ
figures n = spelled 20 n

-- the digits of a number, after a "-" where it is below 0
abbrev pub digits : ℤ → List ℕ
digits (pos n) = figures n
digits (negsuc n) = 45 ∷ figures (suc n)

-- a number that lines can hold
abbrev pub InRange : ℤ → Type 0
InRange z = unsigned_abs z < bound

-- The numbers of lines are just the digits of the values in range.
abbrev pub NumbersAreDigits : Type 0
NumbersAreDigits = (t : List ℕ) → (Number t → (z : ℤ) × InRange z × (t ≡ digits z)) × ((z : ℤ) → InRange z → t ≡ digits z → Number t)

-- The answer of a reader of a whole text: the value in range with these digits, nothing exactly where there is none.
abbrev pub ReadsNumber : List ℕ → Option ℤ → Type 0
ReadsNumber t (Some z) = InRange z × (t ≡ digits z)
ReadsNumber t None = (z : ℤ) → InRange z → t ≢ digits z

-- how many bytes a value is written with, nothing for one out of range
abbrev pub MeasuresNumber : ℤ → Option ℕ → Type 0
MeasuresNumber z (Some n) = InRange z × (n ≡ length (digits z))
MeasuresNumber z None = InRange z → ⊥

-- Writing the digits of n over the front of a buffer: how many they are, the bytes past them as before.
-- Nothing is written exactly where the buffer is too short for them.
abbrev pub WritesFigures : ℕ → (before after : List ℕ) → Option ℕ → Type 0
WritesFigures n before after (Some k) = (k ≡ length (figures n)) × (k ≤ length before) × (after ≡ figures n ++ drop k before)
WritesFigures n before after None = (length before < length (figures n)) × (after ≡ before)

-- Writing z over the front of a buffer: its digits and how many they are, the bytes past them as before.
-- Nothing is written exactly where z is out of range or the buffer is too short for it.
abbrev pub WritesNumber : ℤ → (before after : List ℕ) → Option ℕ → Type 0
WritesNumber z before after (Some n) = InRange z × (n ≡ length (digits z)) × (n ≤ length before) × (after ≡ digits z ++ drop n before)
WritesNumber z before after None = (InRange z → length before < length (digits z)) × (after ≡ before)

-- Reading a number off the front of s: the value whose digits are the longest number that s begins with,
-- and how many they are; nothing exactly where s begins with no number.
pub record LongestNumber (s : List ℕ) (z : ℤ) (n : ℕ) : Type 0 where
  pub fits : n ≤ length s
  pub in_range : InRange z
  pub is : take n s ≡ digits z
  pub longest : (m : ℕ) → n < m → m ≤ length s → Number (take m s) → ⊥

abbrev pub LeadsNumber : List ℕ → Option (Leading ℤ) → Type 0
LeadsNumber s (Some x) = LongestNumber s x.value x.len
LeadsNumber s None = (m : ℕ) → m ≤ length s → Number (take m s) → ⊥
