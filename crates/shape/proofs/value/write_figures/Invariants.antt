use Rattle.std.proofs.Common.{◌++◌, drop}
use Rattle.shape.specs.Decimal.{figures}
use Rattle.shape.proofs.Figures.{Remains}
use Rattle.shape.proofs.value.write_figures.Given as goal

abbrev pub invariant-loop-place : goal.invariant-loop-place
invariant-loop-place l = Remains (figures l.fn.n ++ drop l.initial.count l.fn.out) l.out l.rest l.place
