use Rattle.std.proofs.Common.{◌%◌, length, get_or, ap, ◌∙◌, arith, rules}
use Rattle.std.proofs.lemmas.List.FromFn.{get_or-map-range_with_len}
use Rattle.stream.proofs.Arrays.{from_fn_same}
use Rattle.hs1.proofs.Keys.{seed_is}
use Rattle.hs1.proofs.repeat_key.Goals as goal

pub returns : goal.returns
returns c =
    let key = c.args.key.now in
    let at = λ (i : _). get_or key (i % length key) 0 in
    let made = c.from_fn.ensures.items in
    let e = from_fn_same _ at _ (λ i y q called. search rules) c.from_fn.result 32 0 made in
    seed_is key c.from_fn.result (omega arith) made.long (λ k h. ap (λ x. get_or x k 0) e ∙ get_or-map-range_with_len at 0 32 k k 0 h (omega arith))
