-- What a stream is to whoever uses one.
use Rattle.std.specs.Prelude.{◌≡◌, ℕ, zero, suc, ◌+◌, ◌<◌, ◌≤◌, List, [], ◌∷◌, length, Ok, Err, Result, bit_xor}
use Rattle.refusal.specs.declared.Refusal.{Refusal}
use Rattle.refusal.specs.declared.Refusal.TheVariants.{PastStream}

-- The meaning of a stream: a round count, and one byte for each seed of 32
-- bytes, nonce of 12 bytes and place.
pub record StreamOf : Type 0 where
  pub rounds : ℕ
  pub byte : (seed nonce : List ℕ) (place : ℕ) → ℕ

-- How many places a stream has: they go from 0 to one below this.
abbrev pub places : ℕ
places = 1048576

-- The n bytes that stand in f from a place on.
abbrev pub run : (f : ℕ → ℕ) (place n : ℕ) → List ℕ
run f place zero = []
run f place (suc n) = f place ∷ run f (suc place) n

-- The n bytes of a stream from a place on, for a seed and a nonce.
abbrev pub keystream : StreamOf → (seed nonce : List ℕ) (place n : ℕ) → List ℕ
keystream s seed nonce place n = run (s.byte seed nonce) place n

-- Bytes, each exclusive-ored with the byte that stands in f at its place, the
-- first of them at the given place.
abbrev pub masked : (f : ℕ → ℕ) (place : ℕ) → List ℕ → List ℕ
masked f place [] = []
masked f place (x ∷ xs) = bit_xor x (f place) ∷ masked f (suc place) xs

-- What the working call does to a buffer: within the stream's places it masks
-- the buffer; past them it refuses and leaves the buffer as it was.
abbrev pub Xored : {U : Type 0} (f : ℕ → ℕ) (place : ℕ) (before after : List ℕ) → Result U Refusal → Type 0
Xored f place before after (Ok done) = (place + length before ≤ places) × (after ≡ masked f place before)
Xored f place before after (Err why) = (places < place + length before) × (after ≡ before) × (why ≡ PastStream)
