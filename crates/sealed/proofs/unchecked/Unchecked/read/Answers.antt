use Rattle.std.proofs.Common.{◌≡◌, ◌+◌, ◌<◌, [], ◌∷◌, ◌++◌, length, get_or, take, Ok, sym, refl, ap, ◌∙◌, arith, rules}
use Rattle.std.proofs.lemmas.List.{take-append-drop, drop_all}
use Rattle.std.proofs.lemmas.Result.{err_from_is_err_and}
use Rattle.refusal.specs.declared.Refusal.TheVariants.{NoSealedLine}
use Rattle.shape.specs.Column.{OneColumn}
use Rattle.shape.specs.Outcome.{Fault}
use Rattle.shape.proofs.Carry.{read_fits, drop_byte}
use Rattle.shape.proofs.Columns.{one_column, column_like}
use Rattle.shape.proofs.Lines.{Line, line_fault, line_other, line_long}
use Rattle.sealed.specs.Frame.{Whole}
use Rattle.sealed.specs.Line.{SealedLine, OneReading}
use Rattle.sealed.specs.Sheet.{ReadsFrame}
use Rattle.sealed.proofs.Mapped.{mapped_ok, mapped_err}
use Rattle.sealed.proofs.Pieces.{whole_apart, line_sealed, sealed_whole, one_reading}
use Rattle.sealed.proofs.unchecked.Unchecked.read.Goals as goal
use Rattle.sealed.proofs.unchecked.Unchecked.read.Goals.{then-n-line-via-then-n-line, then-n-line-via-else-n-line+then-line-n-ne10}

unique : OneReading × OneColumn SealedLine
unique = (one_reading, one_column SealedLine)

pub returns-in_err-sheet : goal.returns-in_err-sheet
returns-in_err-sheet c =
    let l = c.args.line.now in
    let e = mapped_err _ _ c.frame.result _ c.map_err.ensures.cases c.in_err-sheet.was in
    let o : Fault Whole l e.0 = rw e.1 at c.frame.ensures.reads in
    let v = column_like (Line Whole) SealedLine line_sealed sealed_whole l (e.0 + 1) (line_fault Whole whole_apart l e.0 o) in
    let p = err_from_is_err_and c.from_residual.result c.from_residual.ensures.1 in
    let d : c.in_err-sheet.field-0.0 ≡ NoSealedLine (e.0 + 1) = search rules in
    record { reads = rw (p.1, p.2, d) (v.0, (_, v.1, refl)); unique = unique }

pub returns-then-n-line : goal.returns-then-n-line
returns-then-n-line c =
    let l = c.args.line.now in
    let n = c.frame.new.self.at in
    let e = mapped_ok _ _ c.frame.result _ c.map_err.ensures.cases c.in_ok-sheet.was in
    let o : ReadsFrame l n (Ok c.in_ok-sheet.sheet) = rw e at c.frame.ensures.reads in
    let other : n < length l → get_or l n 0 ≡ 10 → ⊥ = λ h e. elim c.then-n-line.branch [
      | then-n-line-via-then-n-line w ↦ omega (arith, w.if-n-line.true)
      | then-n-line-via-else-n-line+then-line-n-ne10 w ↦ w.if-line-n-ne10.true e
    ] in
    let v = column_like (Line Whole) SealedLine line_sealed sealed_whole l (n + 1) (line_other Whole whole_apart l n o.0 other) in
    record { reads = (v.0, (_, v.1, refl)); unique = unique }

pub returns-then-n-line-2 : goal.returns-then-n-line-2
returns-then-n-line-2 c =
    let l = c.args.line.now in
    let n = c.frame.new.self.at in
    let e = mapped_ok _ _ c.frame.result _ c.map_err.ensures.cases c.in_ok-sheet.was in
    let o : ReadsFrame l n (Ok c.in_ok-sheet.sheet) = rw e at c.frame.ensures.reads in
    let v = column_like (Line Whole) SealedLine line_sealed sealed_whole l (n + 2) (line_long Whole whole_apart l n o.0 (omega arith) c.if-line-n-ne10.false c.if-n-line-2.true) in
    record { reads = (v.0, (_, v.1, refl)); unique = unique }

pub returns : goal.returns
returns c =
    let l = c.args.line.now in
    let n = c.frame.new.self.at in
    let e = mapped_ok _ _ c.frame.result _ c.map_err.ensures.cases c.in_ok-sheet.was in
    let o : ReadsFrame l n (Ok c.in_ok-sheet.sheet) = rw e at c.frame.ensures.reads in
    let within : n < length l = omega (arith, read_fits _ _ _ o.0) in
    let e : take n l ++ 10 ∷ [] ≡ l = ap (λ z. take n l ++ z) (sym (drop_byte l n 10 within c.if-line-n-ne10.false ∙ ap (λ z. 10 ∷ z) (drop_all (n + 1) l c.if-n-line-2.false))) ∙ take-append-drop n l in
    record { reads = record { lawful = o.1.lawful; line = sym e ∙ o.1.line; head = o.1.head }; unique = unique }
