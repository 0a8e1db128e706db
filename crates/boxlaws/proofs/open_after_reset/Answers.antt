use Rattle.boxlaws.proofs.Opens.{opens_anew}
use Rattle.boxlaws.proofs.open_after_reset.Goals as goal

pub returns : goal.returns
returns g c = opens_anew _ g.K.Kind.lawful g.K.Kind.line g.K.Kind.NUMBER _ _ _ _ _ _ _ _ c.open_after.ensures
