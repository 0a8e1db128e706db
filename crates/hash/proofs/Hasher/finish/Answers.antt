use Rattle.std.proofs.Common.{◌≡◌, ◌∙◌, ◌/◌, ◌%◌, ◌+◌, ◌*◌, length, sym, ap, arith}
use Rattle.std.proofs.lemmas.List.{map-id}
use Rattle.hash.proofs.Blocks.{last_words, last_turned}
use Rattle.hash.proofs.Whole.{hashed_from}
use Rattle.hash.proofs.Hasher.finish.Goals as goal

pub returns : goal.returns
returns c =
    let s = c.args.self in
    let n = c.len-len.ensures in
    let e : c.div_ceil-count.result * 4 ≡ (length s.waiting + 15) / 16 * 4 = omega arith in
    let words = last_words s.waiting c.block-block.result c.read_words.new.out _ (omega (arith, n.1)) e c.block-block.ensures (sym (map-id _) ∙ c.read_words.ensures) in
    let t = c.turn.ensures in
    λ strength keys seen h.
    hashed_from strength keys s c.turn.new.self seen c.join.result h t.strength_stays t.keys_stay (last_turned s c.turn.new.self _ _ (omega arith) words (ap (λ x. x % 16) n.0) t) c.join.ensures
