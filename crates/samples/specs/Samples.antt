-- Worked samples, and what each of them says by the definitions that the contracts of the other crates are about.
use Rattle.std.specs.Prelude.{◌≡◌, ℕ, ◌+◌, ◌-◌, ◌%◌, ◌^◌, ◌<◌, true, List, [], ◌∷◌, length, replicate, pos, Some, None, codes}
use Rattle.hash.specs.declared.Strength.{Strength}
use Rattle.hash.specs.declared.Strength.TheVariants.{Mid, Hi}
use Rattle.hash.specs.Strength.{hashes, nh_words}
use Rattle.hash.specs.Nh.{nh}
use Rattle.hash.specs.Hash.{h_at, result_of}
use Rattle.hash.specs.Message.{message}
use Rattle.hs1.specs.Hs1.{subkey_nonce}
use Rattle.shape.specs.Form.{WellShaped}
use Rattle.shape.specs.Column.{Column}
use Rattle.kinds.specs.Text.{ColumnOf}
use Rattle.items.specs.declared.job.JobItem.{JobItem}
use Rattle.items.specs.declared.job.JobItem.TheVariants.{Cut}
use Rattle.items.specs.Job.{job_lawful, job_reading}
use Rattle.sealed.specs.Line.{header_of}

-- A sample: what is given, and then what must come of it.
pub data Sample : Type 0 where
  -- the nonce that the subkeys are drawn with, for a strength, a round count and the length of a key
  nonce : Strength → (rounds key : ℕ) (bytes : List ℕ) → Sample
  -- NH of key words and words
  nh_sum : (k m : List ℕ) (n : ℕ) → Sample
  -- the same modulo 2^60, as it enters the number of a block
  nh_low : (k m : List ℕ) (n : ℕ) → Sample
  -- h of an input under kN and kP, for each of the hashes that the strength has
  hash_number : Strength → (kN kP input : List ℕ) (h : ℕ) → Sample
  -- the bytes that the last step of a hash makes of h, with its numbers of kA
  last_step : Strength → (kA : List ℕ) (h : ℕ) (bytes : List ℕ) → Sample
  -- a line that is not well shaped, and the column of its fault
  fault : (line : List ℕ) (column : ℕ) → Sample
  -- a line of the kind of jobs, and the item that it is read as, which is lawful
  job : (line : List ℕ) (item : JobItem) → Sample
  -- a well-shaped line that is no job, and so has column 0
  no_job : (line : List ℕ) → Sample
  -- how many bytes the header of a sealed line has, and how many are hashed for that header and a text
  sizes : (slot kind serial : ℕ) (text : List ℕ) (header hashed : ℕ) → Sample

-- What a sample says.
abbrev pub Holds : Sample → Type 0
Holds (nonce s rounds key bytes) = subkey_nonce s rounds key ≡ bytes
Holds (nh_sum k m n) = nh k m ≡ n
Holds (nh_low k m n) = nh k m % 2 ^ 60 ≡ n
Holds (hash_number s kN kP input h) = (i : ℕ) → i < hashes s → h_at kN kP input i ≡ h
Holds (last_step s kA h bytes) = result_of s kA h ≡ bytes
Holds (fault line column) = (WellShaped line → ⊥) × Column WellShaped line column
Holds (job line item) = (job_lawful item ≡ true) × (job_reading line ≡ Some item)
Holds (no_job line) = WellShaped line × (job_reading line ≡ None) × ColumnOf line 0
Holds (sizes slot kind serial text header hashed) =
    (length (header_of slot kind serial) ≡ header) × (length (message (header_of slot kind serial) text) ≡ hashed)

-- n times 0
abbrev pub zeros : ℕ → List ℕ
zeros n = replicate n 0

-- the words of kN at strength mid, all 0
abbrev pub zero_words : List ℕ
zero_words = zeros (nh_words Mid)

-- the numbers of kP at strength mid, all the same
abbrev pub points : ℕ → List ℕ
points kP = replicate (hashes Mid) kP

-- four words, each the largest
abbrev pub full_words : List ℕ
full_words = replicate 4 (2 ^ 32 - 1)

-- The samples.
abbrev pub table : List Sample
table =
    nonce Mid 12 32 (0x20 ∷ 0x00 ∷ 0x10 ∷ 0x00 ∷ 0x0c ∷ 0x04 ∷ 0x40 ∷ 0x00 ∷ 0x00 ∷ 0x00 ∷ 0x00 ∷ 0x00 ∷ [])
    ∷ nh_sum (zeros 4) (1 ∷ 2 ∷ 3 ∷ 4 ∷ []) 11
    ∷ nh_low full_words full_words (2 ^ 60 - 2 ^ 36 + 8)
    ∷ hash_number Mid zero_words (points 5) [] 5
    ∷ hash_number Mid zero_words (points 3) (zeros 8) 11
    ∷ hash_number Mid zero_words (points (2 ^ 59)) (zeros 128) (2 ^ 57)
    ∷ last_step Hi (2 ^ 63 ∷ 0 ∷ 2 ^ 63 ∷ []) (2 ^ 33) (0x00 ∷ 0x00 ∷ 0x00 ∷ 0x80 ∷ [])
    ∷ fault (codes "(end )\n") 6
    ∷ fault (codes "(panel 07 (cloth 2))\n") 9
    ∷ fault (codes "(a (b (c (d (e)))))\n") 13
    ∷ job (codes "(cut (x 500000) (y 0))\n") (Cut (record { x = pos 500000; y = pos 0 }))
    ∷ no_job (codes "(cut (x 500001) (y 0))\n")
    ∷ sizes 3 1 88 (codes "(end)\n") 38 80
    ∷ []
