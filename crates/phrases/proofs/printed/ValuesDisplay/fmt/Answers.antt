use Rattle.std.proofs.Common.{codes, sym, refl, ap, ◌∙◌, arith}
use Rattle.std.proofs.Output.{has_written_of_eq}
use Rattle.phrases.specs.Printed.{values}
use Rattle.phrases.proofs.Spelled.{one_number}
use Rattle.phrases.proofs.printed.ValuesDisplay.fmt.Goals as goal

pub returns-in-UnlawfulItem-clause-writes : goal.returns-in-UnlawfulItem-clause-writes
returns-in-UnlawfulItem-clause-writes g c plain ok =
    has_written_of_eq _ _ _ _ _
    (one_number (codes " (index ") (codes ")") (codes ")") _ c.in-UnlawfulItem.index refl (omega arith) refl ∙ ap values (sym c.in-UnlawfulItem.is))
    (c.write.ensures.writes plain ok)

pub returns-in-NoSealedLine-clause-writes : goal.returns-in-NoSealedLine-clause-writes
returns-in-NoSealedLine-clause-writes g c plain ok =
    has_written_of_eq _ _ _ _ _
    (one_number (codes " (column ") (codes ")") (codes ")") _ c.in-NoSealedLine.column refl (omega arith) refl ∙ ap values (sym c.in-NoSealedLine.is))
    (c.write-in-NoSealedLine.ensures.writes plain ok)

pub returns-in-NoSheet-clause-writes : goal.returns-in-NoSheet-clause-writes
returns-in-NoSheet-clause-writes g c plain ok =
    has_written_of_eq _ _ _ _ _
    (one_number (codes " (line ") _ _ _ c.in-NoSheet.line refl (omega arith) (one_number (codes ") (column ") (codes ")") (codes ")") _ c.in-NoSheet.column refl (omega arith) refl) ∙ ap values (sym c.in-NoSheet.is))
    (c.write-in-NoSheet.ensures.writes plain ok)
