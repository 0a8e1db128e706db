-- What the calls by suite number answer, and what their buffers hold afterwards.
use Rattle.std.specs.Prelude.{◌≡◌, ℕ, List, length, Some, None, Ok, Err, Option, Result}
use Rattle.refusal.specs.declared.Refusal.{Refusal}
use Rattle.refusal.specs.declared.Refusal.TheVariants.{UnknownSuite}
use Rattle.refusal.specs.Number.{number_of}
use Rattle.hs1.specs.Checks.{seal_checks, open_checks}
use Rattle.hs1.specs.Calls.{Seals, Opens}
use Rattle.hs1.specs.Seal.{opened}
use Rattle.suites.specs.declared.Suite.{Suite}
use Rattle.suites.specs.Suites.{table}

-- Finding a suite: the one that is there, or a refusal.
abbrev pub Found : Option Suite → Result Suite Refusal → Type 0
Found (Some q) r = r ≡ Ok q
Found None r = r ≡ Err UnknownSuite

-- Sealing by a suite, if there is one: that suite's stream and strength; an
-- unknown suite is refused before every other check.
abbrev pub SealsBy : Option Suite → (key nonce header text siv_was siv_now was after : List ℕ) → Result (Unit {0}) Refusal → Type 0
SealsBy None key nonce header text siv_was siv_now was after r = (r ≡ Err UnknownSuite) × (siv_now ≡ siv_was) × (after ≡ was)
SealsBy (Some q) key nonce header text siv_was siv_now was after r =
    Seals (seal_checks (table q).strength (length key) (length nonce) (length header) (length text) (length siv_was) (length was))
    (table q).stream (table q).strength key nonce header text siv_was siv_now was after r

-- Opening by a suite, likewise.
abbrev pub OpensBy : Option Suite → (key nonce header iv cipher was after : List ℕ) → Result (Unit {0}) Refusal → Type 0
OpensBy None key nonce header iv cipher was after r = (r ≡ Err UnknownSuite) × (after ≡ was)
OpensBy (Some q) key nonce header iv cipher was after r =
    Opens (open_checks (table q).strength (length key) (length nonce) (length header) (length cipher) (length iv) (length was))
    (opened (table q).stream (table q).strength key nonce header iv cipher) (length cipher) was after r

-- The number that an answer is given as: 0 for done, else the refusal's.
abbrev pub code : Result (Unit {0}) Refusal → ℕ
code (Ok done) = 0
code (Err why) = number_of why

-- A number answered for a result of which something holds.
abbrev pub Coded : (Result (Unit {0}) Refusal → Type 0) → ℕ → Type 0
Coded Holds n = (r : Result (Unit {0}) Refusal) × (n ≡ code r) × Holds r
