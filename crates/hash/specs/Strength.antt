-- The three strengths of HS1-SIV, and the sizes that go with each.
use Rattle.std.specs.Prelude.{ℕ, ◌+◌, ◌-◌, ◌*◌}
use Rattle.hash.specs.declared.Strength.{Strength}
use Rattle.hash.specs.declared.Strength.TheVariants.{Lo, Mid, Hi}

-- t: how many hashes go over an input
abbrev pub hashes : Strength → ℕ
hashes Lo = 2
hashes Mid = 4
hashes Hi = 6

-- L: the bytes of a synthetic IV (SIV)
abbrev pub siv_length : Strength → ℕ
siv_length Lo = 8
siv_length Mid = 16
siv_length Hi = 32

-- the words of kN: sixteen for the first hash, four more for each further one
abbrev pub nh_words : Strength → ℕ
nh_words s = 16 + 4 * (hashes s - 1)

-- the stream bytes that the subkeys are read from: 32 for KS, then kN, kP and kA
abbrev pub subkey_bytes : Strength → ℕ
subkey_bytes s = 32 + 4 * nh_words s + 8 * hashes s + 24 * hashes s
