-- HS1, the pseudo-random function of HS1-SIV (draft v2, figures 2 and 4), over any stream.
use Rattle.std.specs.Prelude.{ℕ, zero, suc, ◌+◌, ◌*◌, ◌^◌, List, [], ◌++◌, length, take, bit_xor}
use Rattle.std.specs.Simd.Lanes.{zip2}
use Rattle.hash.specs.declared.Strength.{Strength}
use Rattle.hash.specs.Strength.{hashes, siv_length, subkey_bytes}
use Rattle.hash.specs.Bytes.{str}
use Rattle.hash.specs.Subkeys.{ks_of, hashed_by}
use Rattle.stream.specs.Stream.{StreamOf, keystream}

-- a string n times in a row
abbrev pub repeated : ℕ → List ℕ → List ℕ
repeated zero s = []
repeated (suc n) s = s ++ repeated n s

-- the seed that the subkeys come from: the key, of 1 to 32 bytes, repeated and cut to 32 bytes
unfoldable pub subkey_seed : List ℕ → List ℕ
subkey_seed key = take 32 (repeated 32 key)

-- the nonce that goes with it, for a strength, a round count and a key's length
unfoldable pub subkey_nonce : Strength → (rounds key : ℕ) → List ℕ
subkey_nonce s rounds key = str 12 (64 * 2 ^ 48 + hashes s * 2 ^ 40 + rounds * 2 ^ 32 + siv_length s * 2 ^ 16 + key)

-- the bytes that hold KS, kN, kP and kA
unfoldable pub subkeys : StreamOf → Strength → (key : List ℕ) → List ℕ
subkeys f s key = keystream f (subkey_seed key) (subkey_nonce s f.rounds (length key)) 0 (subkey_bytes s)

-- the seed that HS1 gives the stream for an input: its hash, exclusive-ored with KS
unfoldable pub hs1_seed : StreamOf → Strength → (key input : List ℕ) → List ℕ
hs1_seed f s key input = zip2 bit_xor (hashed_by s (subkeys f s key) input) (ks_of (subkeys f s key))

-- HS1 of an input under a nonce: one byte for each place
unfoldable pub hs1 : StreamOf → Strength → (key nonce input : List ℕ) (place : ℕ) → ℕ
hs1 f s key nonce input place = f.byte (hs1_seed f s key input) nonce place
