use Rattle.std.proofs.Common.{arith}
use Rattle.std.proofs.lemmas.Grind.{common_steps}
use Rattle.book.proofs.Steps.{clear_noted}
use Rattle.book.proofs.Table.clear.Goals as goal

pub returns-in_err-check_slot-clause-noted : goal.returns-in_err-check_slot-clause-noted
returns-in_err-check_slot-clause-noted c seal = clear_noted _ _ seal c.args.slot (grind (arith, common_steps))

pub returns-clause-noted : goal.returns-clause-noted
returns-clause-noted c seal = clear_noted _ _ seal c.args.slot c.put.ensures
