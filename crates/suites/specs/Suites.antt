-- What a suite is: a number, a name, a stream and a strength.
use Rattle.std.specs.Prelude.{ℕ, cond, List, Some, None, codes, Option, ◌==◌}
use Rattle.std.specs.Str.{bytes_eq}
use Rattle.hash.specs.declared.Strength.{Strength}
use Rattle.hash.specs.declared.Strength.TheVariants.{Lo, Mid, Hi}
use Rattle.stream.specs.Stream.{StreamOf}
use Rattle.chacha.specs.Rounds.{chacha_of}
use Rattle.aes.specs.Aes.{aes_of}
use Rattle.suites.specs.declared.Suite.{Suite}
use Rattle.suites.specs.declared.Suite.TheVariants.{Hs1SivLo, Hs1Siv, Hs1SivHi, LoftAes}

-- What a suite stands for.
pub record SuiteOf : Type 0 where
  pub number : ℕ
  pub name : List ℕ
  pub stream : StreamOf
  pub strength : Strength

-- The table of the suites.
abbrev pub table : Suite → SuiteOf
table Hs1SivLo = record { number = 1; name = codes "hs1-siv-lo"; stream = chacha_of 8; strength = Lo }
table Hs1Siv = record { number = 2; name = codes "hs1-siv"; stream = chacha_of 12; strength = Mid }
table Hs1SivHi = record { number = 3; name = codes "hs1-siv-hi"; stream = chacha_of 20; strength = Hi }
table LoftAes = record { number = 4; name = codes "loft-aes"; stream = aes_of; strength = Mid }

-- The suite of a number, if there is one.
abbrev pub suite : ℕ → Option Suite
suite n =
    cond (n == (table Hs1SivLo).number) (Some Hs1SivLo)
    (cond (n == (table Hs1Siv).number) (Some Hs1Siv)
    (cond (n == (table Hs1SivHi).number) (Some Hs1SivHi)
    (cond (n == (table LoftAes).number) (Some LoftAes) None)))

-- The suite of a name, if there is one.
abbrev pub named : List ℕ → Option Suite
named n =
    cond (bytes_eq n (table Hs1SivLo).name) (Some Hs1SivLo)
    (cond (bytes_eq n (table Hs1Siv).name) (Some Hs1Siv)
    (cond (bytes_eq n (table Hs1SivHi).name) (Some Hs1SivHi)
    (cond (bytes_eq n (table LoftAes).name) (Some LoftAes) None)))
