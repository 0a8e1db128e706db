use Rattle.boxlaws.proofs.Keeps.{unheard}
use Rattle.boxlaws.proofs.open_or_leave.Goals as goal

pub returns-clause-unheard : goal.returns-clause-unheard
returns-clause-unheard g c e h st =
    let o = c.open_line.ensures in
    unheard _ _ _ h _ _ _ _ (o.slots.refused e) st (o.noted h st)
