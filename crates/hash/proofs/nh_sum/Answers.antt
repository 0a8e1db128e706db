use Rattle.std.proofs.Common.{◌≡◌, ◌/◌, ◌%◌, ◌^◌, min, [], length, ap, ◌∙◌, arith, rules}
use Rattle.std.proofs.lemmas.Slice.Zip.{zip_turn, zip_end}
use Rattle.std.proofs.lemmas.List.{length_push}
use Rattle.std.specs.Simd.{first_chunks}
use Rattle.hash.specs.Nh.{groups, nh}
use Rattle.hash.proofs.Chunks.{length_chunks}
use Rattle.hash.proofs.Wrap.{groups_step}
use Rattle.hash.proofs.nh_sum.Goals as goal

pub loop-k-preserved : goal.loop-k-preserved
loop-k-preserved c =
    let k = c.args.k.now in
    let m = c.args.m.now in
    let turn = zip_turn (first_chunks 4 (length k / 4) k) (first_chunks 4 (length m / 4) m) c.loop-k.yielded c.into_iter-k-iterator.result c.loop-k.k-iterator c.next.new.self c.next.result (search rules) (search rules) c.loop-k.yielded_by (c.in-Some.k, c.in-Some.m) c.in-Some.is c.next.ensures.steps in
    rw (length_push, c.from.ensures, c.from-in-loop-k.ensures, c.from-in-loop-k-2.ensures, c.from-in-loop-k-3.ensures, c.from-in-loop-k-4.ensures, c.from-in-loop-k-5.ensures, c.from-in-loop-k-6.ensures, c.from-in-loop-k-7.ensures)
    (groups_step k m c.in-Some.k.now c.in-Some.m.now (length c.loop-k.yielded) (turn.2 []) (turn.3 []) turn.0 turn.1 c.loop-k.sum c.loop-k.invariant)

pub returns : goal.returns
unfolding nh
returns c =
    let k = c.args.k.now in
    let m = c.args.m.now in
    let end = zip_end (first_chunks 4 (length k / 4) k) (first_chunks 4 (length m / 4) m) c.loop-k.yielded c.into_iter-k-iterator.result c.loop-k.k-iterator c.next.new.self c.next.result (search rules) (search rules) c.loop-k.yielded_by c.in-None.is c.next.ensures.steps in
    let n : length c.loop-k.yielded ≡ min (length k) (length m) / 4 = omega (arith, end, length_chunks 4 (length k / 4) k, length_chunks 4 (length m / 4) m) in
    c.loop-k.invariant ∙ ap (λ j. groups k m j % 2 ^ 64) n
