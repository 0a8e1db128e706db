-- Tokens: texts of a set T that a reader takes as one piece, as far as the bytes s go.
use Rattle.std.specs.Prelude.{◌≡◌, ℕ, ◌+◌, ◌<◌, ◌≤◌, cond, List, length, take, Ok, Err, Result, ◌==◌, ◌≢◌, slice_index}
use Rattle.std.specs.List.{AllByRecursion}
use Rattle.shape.specs.Column.{Front}
use Rattle.shape.specs.Limits.{most_digits}

-- The first n bytes of s begin a text of T, and one byte more does not.
pub record Munch (T : List ℕ → Type 0) (s : List ℕ) (n : ℕ) : Type 0 where
  pub fits : n ≤ length s
  pub begins : Front T (take n s)
  pub stops : n < length s → Front T (take (n + 1) s) → ⊥

-- The answer of a reader of a token: it is a whole one, or only the front part of some.
abbrev pub Token : (List ℕ → Type 0) → List ℕ → Result ℕ ℕ → Type 0
Token T s (Ok n) = Munch T s n × T (take n s)
Token T s (Err n) = Munch T s n × (T (take n s) → ⊥)

-- the first n bytes are of the class C, at most `most`, and they are all that stand there up to that
pub record Runs (C : ℕ → Type 0) (most : ℕ) (s : List ℕ) (n : ℕ) : Type 0 where
  pub fits : n ≤ length s
  pub few : n ≤ most
  pub all : AllByRecursion C (take n s)
  pub stops : n < most → n < length s → C (slice_index s n) → ⊥

-- the first n bytes of s are those of p, and the next are not, if both have one
pub record Shares (p s : List ℕ) (n : ℕ) : Type 0 where
  pub fits : n ≤ length s
  pub few : n ≤ length p
  pub same : take n s ≡ take n p
  pub stops : n < length s → n < length p → slice_index s n ≢ slice_index p n

-- how many digits a number may have that begins as s does
abbrev pub allowed_digits : List ℕ → ℕ
allowed_digits s = cond (slice_index s 0 == 48) 1 most_digits
