-- The round counts that ChaCha has, and the stream that each means.
use Rattle.std.specs.Prelude.{◌≡◌, ℕ, ◌/◌, ◌⊎◌, Ok, Err, Result}
use Rattle.refusal.specs.declared.Refusal.{Refusal}
use Rattle.refusal.specs.declared.Refusal.TheVariants.{UnknownSuite}
use Rattle.stream.specs.Stream.{StreamOf}
use Rattle.chacha.specs.declared.Rounds.{Rounds}
use Rattle.chacha.specs.declared.ChaCha.{ChaCha}
use Rattle.chacha.specs.declared.Rounds.TheVariants.{Eight, Twelve, Twenty}
use Rattle.chacha.specs.ChaCha.{byte_at}

-- how many rounds
abbrev pub count : Rounds → ℕ
count Eight = 8
count Twelve = 12
count Twenty = 20

-- ChaCha with so many rounds, as a stream
abbrev pub chacha_of : (rounds : ℕ) → StreamOf
chacha_of rounds = record { rounds = rounds; byte = byte_at (rounds / 2) }

-- a round count that ChaCha has
abbrev pub Known : (rounds : ℕ) → Type 0
Known rounds = (rounds ≡ 8) ⊎ (rounds ≡ 12) ⊎ (rounds ≡ 20)

-- What a round count is read as: the one that ChaCha has, and else a refusal.
abbrev pub Counted : (rounds : ℕ) → Result Rounds Refusal → Type 0
Counted rounds (Ok r) = Known rounds × (count r ≡ rounds)
Counted rounds (Err why) = (Known rounds → ⊥) × (why ≡ UnknownSuite)

-- What making a ChaCha answers: one with that round count where ChaCha has it,
-- and else a refusal.
abbrev pub Made : (rounds : ℕ) → Result ChaCha Refusal → Type 0
Made rounds (Ok c) = Known rounds × (count c.rounds ≡ rounds)
Made rounds (Err why) = (Known rounds → ⊥) × (why ≡ UnknownSuite)
