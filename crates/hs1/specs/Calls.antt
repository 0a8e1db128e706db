-- What a call answers, and what its buffers hold afterwards.
use Rattle.std.specs.Prelude.{◌≡◌, ℕ, Bool, List, is_some, Option, Result}
use Rattle.refusal.specs.declared.Refusal.{Refusal}
use Rattle.hash.specs.declared.Strength.{Strength}
use Rattle.stream.specs.Stream.{StreamOf}
use Rattle.hs1.specs.Seal.{siv, ciphertext}
use Rattle.hs1.specs.Checks.{or_else, wrong_siv, answer, put, cleared}

-- Sealing, whose checks say `checks`: the answer, the buffer for the SIV, and the buffer for the ciphertext, before and
-- after.
pub record Seals (checks : Option Refusal) (f : StreamOf) (s : Strength) (key nonce header text siv_was siv_now was after : List ℕ) (r : Result (Unit {0}) Refusal) : Type 0 where
  pub answer_is : r ≡ answer checks
  pub siv_is : siv_now ≡ put checks (siv f s key nonce header text) siv_was
  pub out_is : after ≡ put checks (ciphertext f s key nonce header text) was

-- Opening n bytes, whose checks say `checks` and which gives `text`: the answer, and the buffer for the text. A wrong
-- SIV is found last, and leaves zeros where the text would stand.
pub record Opens (checks : Option Refusal) (text : Option (List ℕ)) (n : ℕ) (was after : List ℕ) (r : Result (Unit {0}) Refusal) : Type 0 where
  pub answer_is : r ≡ answer (or_else checks (wrong_siv text))
  pub out_is : after ≡ put checks (cleared n text) was

-- A buffer of n bytes opened where it stands, and whether it opened.
pub record OpenedThere (text : Option (List ℕ)) (n : ℕ) (after : List ℕ) (good : Bool) : Type 0 where
  pub good_is : good ≡ is_some text
  pub after_is : after ≡ cleared n text
