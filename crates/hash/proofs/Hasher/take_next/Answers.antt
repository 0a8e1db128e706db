use Rattle.std.proofs.Common.{◌≡◌, ◌∙◌, ◌<◌, ◌++◌, length, take, drop, ap, refl, arith, rules}
use Rattle.std.proofs.lemmas.List.{take-append-drop, length-take-le, length-drop, nil_from_length}
use Rattle.std.proofs.lemmas.Bool.Decides.{nat_tests}
use Rattle.hash.proofs.Blocks.{block_turned, some_wait, pass_block, pass_some}
use Rattle.hash.proofs.Hasher.take_next.Goals as goal

pub returns-in-Some-clause-goes : goal.returns-in-Some-clause-goes
returns-in-Some-clause-goes c =
    let s = c.flush.new.self in
    let part = c.args.part.now in
    let block = c.in-Some.block.now in
    let rest = c.in-Some.rest.now in
    let n : length s.waiting ≡ 0 = grind (arith, nat_tests) in
    let z = nil_from_length s.waiting n in
    let b : block ≡ take 64 part = search rules in
    let r : rest ≡ drop 64 part = search rules in
    let e : block ++ rest ≡ part = ap (λ x. x ++ rest) b ∙ ap (λ x. take 64 part ++ x) r ∙ take-append-drop 64 part in
    let some : 0 < length rest = grind (arith, nat_tests) in
    let l : length block ≡ 64 = ap length b ∙ length-take-le 64 part (omega (arith, some, ap length r, length-drop 64 part)) in
    let t = c.turn_block.ensures in
    let goes = block_turned s c.turn_block.new.self c.turn_block.new.self block block l (ap (λ x. x ++ block) z) t refl refl (t.waiting_stays ∙ z) refl in
    pass_block c.args.self.now s c.turn_block.new.self part block rest c.flush.ensures.goes goes e some

pub returns-in_default-clause-goes : goal.returns-in_default-clause-goes
returns-in_default-clause-goes c =
    pass_some c.args.self.now c.flush.new.self _ c.args.part.now c.take_from.result.now c.flush.ensures.goes (some_wait c.flush.new.self _ c.args.part.now _ refl refl refl c.take_from.ensures.all) c.requires
