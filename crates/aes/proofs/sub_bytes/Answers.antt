use Rattle.std.proofs.Common.{rules}
use Rattle.stream.proofs.Arrays.{map_same}
use Rattle.field.specs.Field.{sbox}
use Rattle.aes.specs.Aes.{sub_bytes}
use Rattle.aes.proofs.sub_bytes.Goals as goal

pub returns : goal.returns
unfolding sub_bytes
returns c =
    map_same _ sbox _ (λ x y f' k. search rules) _ _ 16 0 0 (search rules) c.map.ensures.items
