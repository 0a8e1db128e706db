use Rattle.std.proofs.Common.{◌≡◌, ℕ, ◌/◌, ◌%◌, List, get_or, set, ap, ◌∙◌, subst}
use mathlib.Core.Path.{fun_ext}
use Rattle.stream.specs.Stream.{Xored}
use Rattle.chacha.specs.ChaCha.{serialised, mixed, start, block, byte_at}
use Rattle.chacha.proofs.ChaChaStream.xor.Goals as goal

-- what the blocks of a seed and a nonce made ready give at each place
same_bytes : (n m : ℕ) (seed nonce state : List ℕ) → n ≡ m → ((k : ℕ) → set state 12 k ≡ start seed nonce k) → (λ (place : ℕ). get_or (serialised (mixed n (set state 12 (place / 64)))) (place % 64) 0) ≡ byte_at m seed nonce
unfolding byte_at block
same_bytes n m seed nonce state e at =
    fun_ext (λ place. ap (λ d. get_or (serialised (mixed d (set state 12 (place / 64)))) (place % 64) 0) e ∙ ap (λ s. get_or (serialised (mixed m s)) (place % 64) 0) (at (place / 64)))

pub returns : goal.returns
returns c =
    let P : (ℕ → ℕ) → Type 0 = λ f. Xored f c.args.place c.args.buf.now c.xor_blocks.new.buf c.xor_blocks.result in
    subst P (same_bytes _ _ c.args.seed.now c.args.nonce.now c.first_state.result (c.from.ensures ∙ ap (λ r. r / 2) c.rounds.ensures) c.first_state.ensures) c.xor_blocks.ensures
