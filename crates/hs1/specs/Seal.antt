-- Sealing and opening (HS1-SIV draft v2, figures 1 and 5), over any stream.
use Rattle.std.specs.Prelude.{ℕ, Bool, true, false, cond, ◌&&◌, List, [], ◌∷◌, Some, None, Option, ◌==◌}
use Rattle.hash.specs.declared.Strength.{Strength}
use Rattle.hash.specs.Strength.{siv_length}
use Rattle.hash.specs.Message.{message}
use Rattle.stream.specs.Stream.{StreamOf, run, masked}
use Rattle.hs1.specs.Hs1.{hs1}

-- the synthetic IV: the first L bytes of HS1 of the message
unfoldable pub siv : StreamOf → Strength → (key nonce header text : List ℕ) → List ℕ
siv f s key nonce header text = run (hs1 f s key nonce (message header text)) 0 (siv_length s)

-- text masked under a SIV: exclusive-ored with HS1 of the SIV from place 64 on
unfoldable pub under : StreamOf → Strength → (key nonce iv text : List ℕ) → List ℕ
under f s key nonce iv text = masked (hs1 f s key nonce iv) 64 text

-- the ciphertext: the text masked under its own SIV
unfoldable pub ciphertext : StreamOf → Strength → (key nonce header text : List ℕ) → List ℕ
ciphertext f s key nonce header text = under f s key nonce (siv f s key nonce header text) text

-- whether two strings are the same
abbrev pub same : List ℕ → List ℕ → Bool
same [] [] = true
same [] (y ∷ ys) = false
same (x ∷ xs) [] = false
same (x ∷ xs) (y ∷ ys) = x == y && same xs ys

-- Opening: the text that the ciphertext masks, if the SIV is the one of that text.
unfoldable pub opened : StreamOf → Strength → (key nonce header iv cipher : List ℕ) → Option (List ℕ)
opened f s key nonce header iv cipher =
    let text = under f s key nonce iv cipher in
    cond (same iv (siv f s key nonce header text)) (Some text) None
