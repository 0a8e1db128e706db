use Rattle.std.proofs.Common.{[], ◌∷◌, pos, refl}
use Rattle.items.proofs.Tried.{none_tried}
use Rattle.items.proofs.job.read_panel.Goals as goal

pub returns-in_err-number : goal.returns-in_err-number
returns-in_err-number c = none_tried _ _ _ c.from_residual.ensures (λ n k h e. c.in_err-number.ensures refl refl (pos n ∷ pos k ∷ []) (h, e))
