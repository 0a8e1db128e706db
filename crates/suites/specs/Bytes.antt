-- What stands in the stream of a suite is bytes.
use Rattle.std.specs.Prelude.{ℕ, ◌<◌, List}
use Rattle.std.proofs.Common.{rules}
use Rattle.chacha.specs.Words.{stream_byte}
use Rattle.suites.specs.declared.Suite.{Suite}
use Rattle.suites.specs.declared.Suite.TheVariants.{Hs1SivLo, Hs1Siv, Hs1SivHi, LoftAes}
use Rattle.suites.specs.Suites.{table}

pub table_byte : (suite : Suite) (seed nonce : List ℕ) (place : ℕ) → (table suite).stream.byte seed nonce place < 256
table_byte Hs1SivLo seed nonce place = stream_byte 4 seed nonce place
table_byte Hs1Siv seed nonce place = stream_byte 6 seed nonce place
table_byte Hs1SivHi seed nonce place = stream_byte 10 seed nonce place
table_byte LoftAes seed nonce place = search rules
