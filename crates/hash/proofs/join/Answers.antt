use Rattle.std.proofs.Common.{◌≡◌, ◌-◌, ◌*◌, ◌/◌, ◌<◌, [], ◌++◌, length, get_or, replicate, ap, ◌∙◌, arith, rules}
use Rattle.std.proofs.lemmas.List.{get_or-take}
use Rattle.hash.specs.Strength.{hashes}
use Rattle.hash.specs.Hash.{results, result_width}
use Rattle.hash.proofs.Chunks.{chunk_is}
use Rattle.hash.proofs.Results.{result_more, results_padded}
use Rattle.hash.proofs.Whole.{hashes_le}
use Rattle.hash.proofs.join.Goals as goal

pub loop-i-preserved : goal.loop-i-preserved
loop-i-preserved c =
    let k = c.args.k.now in
    let i = c.loop-i.i in
    let t = c.hashes.result in
    let lt : i < t = search rules in
    let le : i < length k / 3 = omega (arith, hashes_le c.args.strength, c.hashes.ensures, c.told-k) in
    result_more c.args.strength k (λ j. get_or c.args.h.now j 0) i _ c.loop-i.out _ _ c.loop-i.invariant (ap (λ x. get_or x i []) c.as_chunks.ensures.front ∙ chunk_is 3 (length k / 3) k i [] le) (get_or-take t c.args.h.now i 0 lt) c.write_result.ensures

pub returns : goal.returns
returns c =
    let s = c.args.strength in
    let k = c.args.k.now in
    let n : c.loop-i.i ≡ hashes s = omega (arith, c.hashes.ensures, hashes_le s) in
    c.loop-i.invariant
    ∙ ap (λ i. results s k (λ j. get_or c.args.h.now j 0) i ++ replicate (32 - result_width s * i) 0) n
    ∙ results_padded s k (λ j. get_or c.args.h.now j 0)
