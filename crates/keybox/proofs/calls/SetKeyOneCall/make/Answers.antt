use Rattle.keybox.proofs.calls.SetKeyOneCall.make.Goals as goal

pub returns-clause-noted : goal.returns-clause-noted
returns-clause-noted g c = c.set_key.ensures.noted _
