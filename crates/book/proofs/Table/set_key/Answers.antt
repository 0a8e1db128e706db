use Rattle.std.proofs.Common.{Some, refl, arith}
use Rattle.std.proofs.lemmas.Grind.{common_steps}
use Rattle.book.specs.Keys.{empty}
use Rattle.book.proofs.Steps.{set_noted}
use Rattle.book.proofs.Table.set_key.Goals as goal

pub returns-in_err-check_slot-clause-noted : goal.returns-in_err-check_slot-clause-noted
returns-in_err-check_slot-clause-noted c seal = set_noted _ _ seal c.args.slot c.args.key.now empty refl (grind (arith, common_steps)) (grind (arith, common_steps))

pub returns-in_err-key-clause-noted : goal.returns-in_err-key-clause-noted
returns-in_err-key-clause-noted c seal = set_noted _ _ seal c.args.slot c.args.key.now empty refl (grind (arith, common_steps)) (grind (arith, common_steps))

pub returns-clause-noted : goal.returns-clause-noted
returns-clause-noted c seal = set_noted _ _ seal c.args.slot c.args.key.now (record { key = Some c.in_ok-key.key; last = 0 }) refl (grind (arith, common_steps)) (grind (arith, common_steps))
