use Rattle.std.proofs.Common.{sym, ap, ◌∙◌, subst}
use Rattle.sealed.specs.Line.{Parts}
use Rattle.sealed.specs.Sheet.{ReadFrom, ReadsSealed, parts_of}
use Rattle.sealed.specs.declared.label.Label.{Label}
use Rattle.sheet.proofs.sealing.read_label.Goals as goal

pub returns : goal.returns
returns c p good e =
    let r : ReadFrom c.args.line.now c.unwrap-sheet.result = subst (ReadsSealed c.args.line.now) c.unwrap-sheet.ensures c.read.ensures.reads in
    let same = c.read.ensures.unique.0 (parts_of c.unwrap-sheet.result) p r.lawful good (sym r.line ∙ e) in
    let l = c.label.ensures in
    (ap (λ (x : Label). x.slot) l ∙ ap (λ (x : Parts). x.slot) same, ap (λ (x : Label). x.kind) l ∙ ap (λ (x : Parts). x.kind) same, ap (λ (x : Label). x.serial) l ∙ ap (λ (x : Parts). x.serial) same)
