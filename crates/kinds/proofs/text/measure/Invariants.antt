use Rattle.kinds.proofs.Measured.{Measured}
use Rattle.kinds.proofs.text.measure.Given as goal

abbrev pub invariant-loop-index : goal.invariant-loop-index
invariant-loop-index g l = Measured g.K.Kind.lawful g.K.Kind.line l.items l.total l.index
