use Rattle.std.proofs.Common.{◌==◌, length, ap, arith, rules}
use Rattle.std.proofs.lemmas.List.Sorted.{answers_always}
use Rattle.kinds.proofs.Cut.{first_piece, piece_cut}
use Rattle.kinds.proofs.text.LinesIterator.next.Goals as goal

pub returns-clause-steps : goal.returns-clause-steps
returns-clause-steps c =
    let k = c.in_ok-line.ensures.steps in
    piece_cut _ _ _ c.split_inclusive.ensures.rest (first_piece _ _ _ k.1.0 k.0 k.1.1 (k.1.2 (λ b. b == 10) (answers_always _ _ _ (λ f a r h q. search rules))).1 k.2)

pub returns-clause-goes : goal.returns-clause-goes
returns-clause-goes c = record { on = λ _. (tt, tt, omega (arith, ap length (returns-clause-steps c))); keeps = tt; rests = λ _. tt }
