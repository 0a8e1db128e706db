use Rattle.std.proofs.Common.{◌≡◌, ℕ, ◌+◌, ◌≤◌, List, length, ◌∙◌, arith, rules}
use Rattle.sealed.specs.Line.{parts_in, sealed_line}
use Rattle.sealed.proofs.Lengths.{few_figures, siv_most, text_most}
use Rattle.sealed.proofs.Parts.{line_left, room, step, finish}
use Rattle.sealed.proofs.Refusals.{refuses_room, writes_it, short_header, line_long, passed, lengths_lawful, unrefused}
use Rattle.sealed.proofs.label.Label.write_line.Goals as goal

via : {x y z : List ℕ} → y ≡ z → x ≡ y → x ≡ z
via h e = e ∙ h

pub overflow_add-len : goal.overflow_add-len
overflow_add-len c = omega (arith, c.figure_count.ensures, few_figures c.args.self.serial (omega arith))

pub overflow_add-len-2 : goal.overflow_add-len-2
overflow_add-len-2 c =
    let f = lengths_lawful _ (length c.args.siv.now) (length c.args.text.now) (unrefused _ c.in_ok-check_parts.ensures) in
    omega (arith, c.figure_count.ensures, few_figures c.args.self.serial (omega arith), siv_most.1 (length c.args.siv.now) f.0)

pub overflow_add-len-3 : goal.overflow_add-len-3
overflow_add-len-3 c =
    let f = lengths_lawful _ (length c.args.siv.now) (length c.args.text.now) (unrefused _ c.in_ok-check_parts.ensures) in
    omega (arith, c.figure_count.ensures, few_figures c.args.self.serial (omega arith), siv_most.1 (length c.args.siv.now) f.0, text_most.1 (length c.args.text.now) f.1)

pub returns-then-out-len : goal.returns-then-out-len
returns-then-out-len c =
    let p = parts_in c.args.self.slot c.args.self.kind c.args.self.serial c.args.siv.now c.args.text.now in
    let h = unrefused _ c.in_ok-check_parts.ensures in
    refuses_room _ (sealed_line p) c.args.out.now h (omega (arith, line_long p (passed _ _ _ h) (omega arith), c.figure_count.ensures, c.if-out-len.true))

pub header-requires : goal.header-requires
header-requires c =
    let h = unrefused _ c.in_ok-check_parts.ensures in
    omega (arith, short_header c.args.self.slot c.args.self.kind c.args.self.serial (passed _ _ _ h) (omega arith), c.figure_count.ensures, c.if-out-len.false)

pub rest-requires : goal.rest-requires
rest-requires c =
    let p = parts_in c.args.self.slot c.args.self.kind c.args.self.serial c.args.siv.now c.args.text.now in
    let h = unrefused _ c.in_ok-check_parts.ensures in
    let long : 0 + length (sealed_line p) ≤ length c.args.out.now = omega (arith, line_long p (passed _ _ _ h) (omega arith), c.figure_count.ensures, c.if-out-len.false) in
    room (step (line_left _ p long) c.header.ensures)

pub returns : goal.returns
returns c =
    let p = parts_in c.args.self.slot c.args.self.kind c.args.self.serial c.args.siv.now c.args.text.now in
    let h = unrefused _ c.in_ok-check_parts.ensures in
    let long : 0 + length (sealed_line p) ≤ length c.args.out.now = omega (arith, line_long p (passed _ _ _ h) (omega arith), c.figure_count.ensures, c.if-out-len.false) in
    let w = finish (step (step (line_left _ p long) c.header.ensures) c.rest.ensures) in
    writes_it _ (sealed_line p) c.args.out.now h _ _ (omega arith) (omega (arith, w.at)) (via w.out (search rules))
