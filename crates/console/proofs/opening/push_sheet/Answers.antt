use Rattle.std.proofs.Common.{cond, ◌++◌, length, is_ok, vec_items, ap, ◌∙◌}
use Rattle.kinds.specs.Text.{text_of}
use Rattle.phrases.specs.Printed.{opened_line}
use Rattle.console.proofs.Sheets.{never_refused, text_there, two_pushes}
use Rattle.console.proofs.opening.push_sheet.Goals as goal

pub unreachable-requires : goal.unreachable-requires
unreachable-requires g c = never_refused g.K.Kind.lawful g.K.Kind.line c.args.items.now c.requires.0 _ _ _ c.requires.1 c.in-Err.ensures.answer

pub returns : goal.returns
returns g c =
    let items = c.args.items.now in
    let o = vec_items c.args.out.now in
    let mid = vec_items c.extend_from_slice.new.self in
    let text = text_there g.K.Kind.lawful g.K.Kind.line items c.requires.0 _ _ c.in-Ok.len c.in-Ok.ensures.answer in
    two_pushes c.extend_from_slice-in-Ok.result o mid _ (opened_line (length items)) (text_of g.K.Kind.line items)
    (c.in_ok-extend_from_slice.ensures.items ∙ ap (λ x. o ++ x) (c.as_bytes.ensures.value ∙ c.in_ok-line.ensures))
    (c.extend_from_slice-in-Ok.ensures.items ∙ ap (λ x. cond (is_ok c.extend_from_slice-in-Ok.result) (mid ++ x) mid) text)
