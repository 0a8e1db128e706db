use Rattle.std.proofs.Common.{◌/◌, ◌%◌, ◌+◌, rules}
use Rattle.stream.proofs.Arrays.{from_fn_same}
use Rattle.aes.specs.Aes.{cell, shift_rows}
use Rattle.aes.proofs.shift_rows.Goals as goal

pub returns : goal.returns
unfolding shift_rows
returns c =
    from_fn_same _ (λ i. cell c.args.s.now (i % 4) ((i / 4 + i % 4) % 4)) _ (λ i y f' k. search rules) _ 16 0 c.from_fn.ensures.items
