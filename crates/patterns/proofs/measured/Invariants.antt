use Rattle.patterns.proofs.Spell.{Measured}
use Rattle.patterns.proofs.measured.Given as goal

abbrev pub invariant-loop-b : goal.invariant-loop-b
invariant-loop-b l = Measured l.text l.fn.values l.room l.b-index l.len l.values.rest.now
