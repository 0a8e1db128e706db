use Rattle.std.proofs.Common.{◌≡◌, ◌/◌, [], length, get_or, take, drop, bit_xor, ap, ◌∙◌, arith, length-take}
use Rattle.std.specs.Simd.Lanes.{zip2}
use Rattle.std.specs.Simd.{first_chunks}
use Rattle.aes.specs.Aes.{sub_bytes, shift_rows, add_round_key, full_rounds, encrypted}
use Rattle.aes.proofs.Lists.{round_more, chunk_at}
use Rattle.aes.proofs.encrypt.Goals as goal

pub loop-round_key-preserved : goal.loop-round_key-preserved
loop-round_key-preserved c =
    let w = c.args.expanded.now in
    let keys = c.as_chunks.result.0.now in
    let all : keys ≡ first_chunks 16 15 w = c.as_chunks.ensures.front ∙ ap (λ n. first_chunks 16 (n / 16) w) c.told-expanded in
    (c.full_round.array_long, round_more w c.args.block.now c.loop-round_key.s _ keys c.loop-round_key.round_key-index all (omega (arith, length-take 13 (drop 1 keys))) c.loop-round_key.invariant.1 c.full_round.ensures)

pub returns : goal.returns
unfolding encrypted
returns c =
    let w = c.args.expanded.now in
    let keys = c.as_chunks.result.0.now in
    let all : keys ≡ first_chunks 16 15 w = c.as_chunks.ensures.front ∙ ap (λ n. first_chunks 16 (n / 16) w) c.told-expanded in
    let n : c.loop-round_key.round_key-index ≡ 13 = omega (arith, ap (λ k. length (take 13 (drop 1 k))) all) in
    c.last_round.ensures
    ∙ ap (zip2 bit_xor (shift_rows (sub_bytes c.loop-round_key.s))) (ap (λ k. get_or k 14 []) all ∙ chunk_at 15 14 w (omega arith))
    ∙ ap (λ x. add_round_key w 14 (shift_rows (sub_bytes x))) (c.loop-round_key.invariant.1 ∙ ap (λ k. full_rounds w k c.args.block.now) n)
