use Rattle.std.proofs.Common.{[], ◌∷◌, ◌++◌, ◌∙◌, subst}
use Rattle.book.specs.Stands.{Noted}
use Rattle.sheet.specs.Sheet.{sheet_line}
use Rattle.keybox.proofs.calls.ThenCalls.play.Goals as goal

pub returns : goal.returns
returns g c =
    let first = c.play.ensures in
    let then = c.make.ensures in
    let noted = subst (λ x. Noted (sheet_line (g.S.Stream.meaning x.stream) x.strength) c.play.new.b.table.slots c.make.new.b.table.slots (g.C.OneCall.call c.args.self.call ∷ [])) first.kept then.noted in
    record {
      kept = then.kept ∙ first.kept;
      noted = λ h st. noted (g.P.Calls.calls c.args.self.before ++ h) (first.noted h st);
    }
