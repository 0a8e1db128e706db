-- From the calls of the code to SIV and ciphertext.
use Rattle.std.proofs.Common.{◌≡◌, ℕ, Bool, cond, List, length, take, replicate, Some, None, sym, ap, ◌∙◌}
use lib.Bits.{bit_xor}
use lib.Lanes.{zip2}
use Rattle.hash.specs.declared.Strength.{Strength}
use Rattle.hash.specs.Strength.{siv_length}
use Rattle.hash.specs.Hash.{hashed, below60}
use Rattle.hash.specs.Subkeys.{hashed_by}
use Rattle.hash.specs.Message.{message}
use Rattle.stream.specs.Stream.{StreamOf, run, masked}
use Rattle.stream.proofs.Masks.{take_run, length_masked}
use Rattle.hs1.specs.declared.Ready.{Ready}
use Rattle.hs1.specs.Hs1.{subkeys, hs1_seed, hs1}
use Rattle.hs1.specs.Seal.{siv, under, ciphertext, same, opened}
use Rattle.hs1.specs.Derived.{Derived}
use Rattle.hs1.proofs.Keys.{masked_zeros, siv_short}

-- the seed of HS1 for an input
pub seed_from : (f : StreamOf) (s : Strength) (key : List ℕ) (keys : Ready) (m digest seed : List ℕ) → Derived f s key keys → digest ≡ hashed s keys.hash.k_n (below60 keys.hash.k_p) keys.hash.k_a m → seed ≡ zip2 bit_xor digest keys.ks → seed ≡ hs1_seed f s key m
unfolding hs1_seed
seed_from f s key keys m digest seed d e g =
    g ∙ ap (λ x. zip2 bit_xor x keys.ks) (e ∙ d.hash_is m) ∙ ap (zip2 bit_xor (hashed_by s (subkeys f s key) m)) d.ks_is

pub siv_from : (f : StreamOf) (s : Strength) (key nonce header text seed out : List ℕ) → seed ≡ hs1_seed f s key (message header text) → out ≡ masked (f.byte seed nonce) 0 (replicate 32 0) → take (siv_length s) out ≡ siv f s key nonce header text
unfolding siv hs1
siv_from f s key nonce header text seed out e o =
    ap (take (siv_length s)) (o ∙ masked_zeros (f.byte seed nonce) 0 32)
    ∙ take_run (f.byte seed nonce) (siv_length s) 0 32 (siv_short s)
    ∙ ap (λ x. run (f.byte x nonce) 0 (siv_length s)) e

pub under_from : (f : StreamOf) (s : Strength) (key nonce iv seed text out : List ℕ) → seed ≡ hs1_seed f s key iv → out ≡ masked (f.byte seed nonce) 64 text → out ≡ under f s key nonce iv text
unfolding under hs1
under_from f s key nonce iv seed text out e o = o ∙ ap (λ x. masked (f.byte x nonce) 64 text) e

-- sealed in a buffer
pub sealed_text : (f : StreamOf) (s : Strength) (key nonce header text iv out : List ℕ) (n : ℕ) → take (siv_length s) iv ≡ siv f s key nonce header text → n ≡ siv_length s → out ≡ under f s key nonce (take n iv) text → out ≡ ciphertext f s key nonce header text
unfolding ciphertext
sealed_text f s key nonce header text iv out n h l o =
    o
    ∙ ap (λ x. under f s key nonce (take x iv) text) l
    ∙ ap (λ x. under f s key nonce x text) h

pub length_under : (f : StreamOf) (s : Strength) (key nonce iv text : List ℕ) → length (under f s key nonce iv text) ≡ length text
unfolding under
length_under f s key nonce iv text = length_masked (hs1 f s key nonce iv) 64 text

-- the comparison that opening makes
pub compared : (f : StreamOf) (s : Strength) (key nonce header iv cipher text again : List ℕ) (n : ℕ) (good : Bool) → text ≡ under f s key nonce iv cipher → take (siv_length s) again ≡ siv f s key nonce header text → n ≡ siv_length s → good ≡ same iv (take n again) → opened f s key nonce header iv cipher ≡ cond good (Some text) None
unfolding opened
compared f s key nonce header iv cipher text again n good t a l g =
    let e : good ≡ same iv (siv f s key nonce header text) = g ∙ ap (λ x. same iv (take x again)) l ∙ ap (same iv) a in
    sym (ap (λ b. cond b (Some text) None) e ∙ ap (λ x. cond (same iv (siv f s key nonce header x)) (Some x) None) t)
