-- A key made ready, as the code holds it.
use Rattle.std.specs.Prelude.{◌≡◌, ℕ, List}
use Rattle.hash.specs.declared.Strength.{Strength}
use Rattle.hash.specs.Hash.{hashed, below60}
use Rattle.hash.specs.Subkeys.{ks_of, hashed_by}
use Rattle.stream.specs.Stream.{StreamOf}
use Rattle.hs1.specs.declared.Ready.{Ready}
use Rattle.hs1.specs.Hs1.{subkeys}

-- KS stands there, and the hash under the subkeys is the hash under those of the key.
pub record Derived (f : StreamOf) (s : Strength) (key : List ℕ) (keys : Ready) : Type 0 where
  pub ks_is : keys.ks ≡ ks_of (subkeys f s key)
  pub hash_is : (m : List ℕ) → hashed s keys.hash.k_n (below60 keys.hash.k_p) keys.hash.k_a m ≡ hashed_by s (subkeys f s key) m
