use Rattle.sheet.proofs.Answered.{sealed_length}
use Rattle.sheet.proofs.sealing.seal_and_read.Goals as goal

pub returns-clause-answer : goal.returns-clause-answer
returns-clause-answer g c = sealed_length g.K.Kind.lawful g.K.Kind.line c.args.items.now _ _ _ _ _ _ c.in_ok-len.ensures.answer
