use Rattle.std.proofs.Common.{drop}
use Rattle.kinds.specs.Text.{text_of}
use Rattle.kinds.proofs.Overwrite.{Over}
use Rattle.kinds.proofs.text.write_text.Given as goal

abbrev pub invariant-loop-item : goal.invariant-loop-item
invariant-loop-item g l = Over (text_of g.K.Kind.line l.items) l.initial.out l.out l.at (text_of g.K.Kind.line (drop l.item-index l.items))
