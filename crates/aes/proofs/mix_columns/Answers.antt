use Rattle.std.proofs.Common.{◌/◌, ◌%◌, rules}
use Rattle.stream.proofs.Arrays.{from_fn_same}
use Rattle.aes.specs.Aes.{mixed_byte, mix_columns}
use Rattle.aes.proofs.mix_columns.Goals as goal

pub returns : goal.returns
unfolding mix_columns
returns c =
    from_fn_same _ (λ i. mixed_byte c.args.s.now (i % 4) (i / 4)) _ (λ i y f' k. search rules) _ 16 0 c.from_fn.ensures.items
