-- The subkeys, read from the bytes that a stream gives for a key (HS1-SIV draft v2, figure 4). They stand there one
-- after the other: KS, kN, kP and kA.
use Rattle.std.specs.Prelude.{◌≡◌, ℕ, ◌+◌, ◌*◌, List, take, drop}
use Rattle.hash.specs.declared.Strength.{Strength}
use Rattle.hash.specs.declared.HashKeys.{HashKeys}
use Rattle.hash.specs.Strength.{hashes, nh_words}
use Rattle.hash.specs.Bytes.{ints}
use Rattle.hash.specs.Hash.{below60, hashed}

-- KS: 32 bytes, for the seed of the stream
abbrev pub ks_of : List ℕ → List ℕ
ks_of bytes = take 32 bytes

-- kN: words of 4 bytes
abbrev pub kn_of : Strength → List ℕ → List ℕ
kn_of s bytes = ints 4 (take (4 * nh_words s) (drop 32 bytes))

-- kP: t numbers of 8 bytes, each modulo 2^60
abbrev pub kp_of : Strength → List ℕ → List ℕ
kp_of s bytes = below60 (ints 8 (take (8 * hashes s) (drop (32 + 4 * nh_words s) bytes)))

-- kA: 3 t numbers of 8 bytes
abbrev pub ka_of : Strength → List ℕ → List ℕ
ka_of s bytes = ints 8 (take (24 * hashes s) (drop (32 + 4 * nh_words s + 8 * hashes s) bytes))

-- the hash under the subkeys that those bytes hold
unfoldable pub hashed_by : Strength → (bytes m : List ℕ) → List ℕ
hashed_by s bytes m = hashed s (kn_of s bytes) (kp_of s bytes) (ka_of s bytes) m

-- the subkeys of the hash as they stand in the code, at the front of its arrays
pub record Reads (s : Strength) (bytes : List ℕ) (keys : HashKeys) : Type 0 where
  pub words : take (nh_words s) keys.k_n ≡ kn_of s bytes
  pub points : below60 (take (hashes s) keys.k_p) ≡ kp_of s bytes
  pub scales : take (3 * hashes s) keys.k_a ≡ ka_of s bytes
