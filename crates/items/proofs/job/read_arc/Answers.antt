use Rattle.std.proofs.Common.{[], ◌∷◌, refl}
use Rattle.items.proofs.Tried.{none_tried}
use Rattle.items.proofs.job.read_arc.Goals as goal

pub returns-in_err-via_x : goal.returns-in_err-via_x
returns-in_err-via_x c = none_tried _ _ _ c.from_residual.ensures (λ via to h e. c.in_err-via_x.ensures refl refl (via.x ∷ via.y ∷ to.x ∷ to.y ∷ []) (h, e))
