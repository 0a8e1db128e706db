-- What a running hash holds of its input.
use Rattle.std.specs.Prelude.{◌≡◌, ℕ, ◌<◌, List, ◌++◌, length, slice_index}
use Rattle.hash.specs.declared.HashKeys.{HashKeys}
use Rattle.hash.specs.declared.Hasher.{Hasher}
use Rattle.hash.specs.declared.Strength.{Strength}
use Rattle.hash.specs.Strength.{hashes}
use Rattle.hash.specs.Hash.{blocks, turn, turned, h_of}
use Rattle.hash.specs.Running.{nh_part, poly_point}

-- h of hash i, if the input goes on with `more` and then ends
unfoldable pub ending : Hasher → (i : ℕ) (more : List ℕ) → ℕ
ending s i more = turned (nh_part s.keys.now i) (poly_point s.keys.now i) (slice_index s.running i) (blocks (s.waiting ++ more))

-- One more block: the running value of each of the hashes is turned by a number of its own.
pub record Turns (a : ℕ → ℕ) (was after : Hasher) : Type 0 where
  pub strength_stays : after.strength ≡ was.strength
  pub keys_stay : after.keys ≡ was.keys
  pub waiting_stays : after.waiting ≡ was.waiting
  pub turns : (i : ℕ) → i < hashes was.strength → slice_index after.running i ≡ turn (poly_point was.keys.now i) (slice_index was.running i) (a i)

-- From `was` the hasher came to `after` by taking in `part`, if more input follows.
pub record Takes (was : Hasher) (part : List ℕ) (after : Hasher) : Type 0 where
  pub strength_stays : after.strength ≡ was.strength
  pub keys_stay : after.keys ≡ was.keys
  pub ends : (i : ℕ) → i < hashes was.strength → (more : List ℕ) → 0 < length more → ending after i more ≡ ending was i (part ++ more)

-- What would have come of `was` with `part` to follow comes of `after` with `rest` to follow, and so with more behind.
pub record Passes (was : Hasher) (part rest : List ℕ) (after : Hasher) : Type 0 where
  pub strength_stays : after.strength ≡ was.strength
  pub keys_stay : after.keys ≡ was.keys
  pub ends : (i : ℕ) → i < hashes was.strength → (more : List ℕ) → ending after i (rest ++ more) ≡ ending was i (part ++ more)

-- The hasher has taken in `seen` in each of the hashes of a strength, under those keys: whatever comes after it, h is
-- that of the whole.
pub record Holds (strength : Strength) (keys : HashKeys) (s : Hasher) (seen : List ℕ) : Type 0 where
  pub strength_is : s.strength ≡ strength
  pub keys_are : s.keys.now ≡ keys
  pub ends : (i : ℕ) → i < hashes strength → (more : List ℕ) → ending s i more ≡ h_of (nh_part keys i) (poly_point keys i) (seen ++ more)
