use Rattle.keybox.proofs.calls.ClearOneCall.make.Goals as goal

pub returns-clause-noted : goal.returns-clause-noted
returns-clause-noted g c = c.clear.ensures.noted _
