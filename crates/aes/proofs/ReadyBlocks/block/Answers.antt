use Rattle.std.proofs.Common.{ℕ, ◌+◌, ◌*◌, List, [], ◌∷◌, ap, ◌∙◌, rules, refl}
use Rattle.std.specs.List.{flat_map}
use Rattle.stream.specs.Stream.{run}
use Rattle.stream.proofs.Arrays.{map_same}
use Rattle.aes.specs.Aes.{byte_under}
use Rattle.aes.proofs.Lists.{four_parts}
use Rattle.aes.proofs.ReadyBlocks.block.Goals as goal

pub returns : goal.returns
returns c =
    let f : ℕ → ℕ = byte_under c.args.self.now.expanded c.args.self.now.nonce in
    let h : ℕ → List ℕ = λ q. run f (64 * c.args.index + 16 * q) 16 in
    c.copy_from_slice.ensures.after ∙ c.as_flattened.ensures.value
    ∙ ap (flat_map (λ (x : List ℕ). x)) (map_same _ h _ (λ x y f' k. search rules) (0 ∷ 1 ∷ 2 ∷ 3 ∷ []) _ 4 0 [] refl c.map-parts.ensures.items)
    ∙ four_parts f (64 * c.args.index)
