use Rattle.std.proofs.Common.{◌≡◌, length}
use Rattle.std.specs.Iterator.Adapters.{enumerate_source, enumerate_count}
use Rattle.patterns.proofs.Found.{Found}
use Rattle.patterns.proofs.Pattern.read.Given as goal

abbrev pub invariant-loop-b : goal.invariant-loop-b
invariant-loop-b g l = Found l.self.text.now l.self.ranges.now l.line l.values l.b-index (enumerate_count l.places) (enumerate_source l.places).rest.now l.rest × (length l.values ≡ g.row.N)
