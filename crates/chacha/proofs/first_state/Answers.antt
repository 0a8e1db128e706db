use Rattle.std.proofs.Common.{◌≡◌, ℕ, List, [], ◌∷◌, length, refl, arith, rules}
use Rattle.chacha.specs.ChaCha.{start, words, word_at}
use Rattle.chacha.specs.Words.{words_from, words_end}
use Rattle.chacha.proofs.first_state.Goals as goal

key_words : (k : List ℕ) → length k ≡ 32 → words k ≡ word_at k 0 ∷ word_at k 4 ∷ word_at k 8 ∷ word_at k 12 ∷ word_at k 16 ∷ word_at k 20 ∷ word_at k 24 ∷ word_at k 28 ∷ []
key_words k l =
    let w0 = words_from k 0 4 (omega arith) refl in
    let w1 = words_from k 4 8 (omega arith) refl in
    let w2 = words_from k 8 12 (omega arith) refl in
    let w3 = words_from k 12 16 (omega arith) refl in
    let w4 = words_from k 16 20 (omega arith) refl in
    let w5 = words_from k 20 24 (omega arith) refl in
    let w6 = words_from k 24 28 (omega arith) refl in
    let w7 = words_from k 28 32 (omega arith) refl in
    let e = words_end k 32 l in
    cc

nonce_words : (k : List ℕ) → length k ≡ 12 → words k ≡ word_at k 0 ∷ word_at k 4 ∷ word_at k 8 ∷ []
nonce_words k l =
    let w0 = words_from k 0 4 (omega arith) refl in
    let w1 = words_from k 4 8 (omega arith) refl in
    let w2 = words_from k 8 12 (omega arith) refl in
    let e = words_end k 12 l in
    cc

pub returns : goal.returns
unfolding start
returns c n =
    let k = key_words c.args.seed.now (search rules) in
    let m = nonce_words c.args.nonce.now (search rules) in
    rw (k, m) (cc)
