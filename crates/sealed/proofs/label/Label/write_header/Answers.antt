use Rattle.std.proofs.Common.{arith}
use Rattle.sealed.specs.Line.{header_of}
use Rattle.sealed.proofs.Lengths.{few_figures}
use Rattle.sealed.proofs.Refusals.{refuses_room, short_header, unrefused}
use Rattle.sealed.proofs.label.Label.write_header.Goals as goal

pub overflow_add-figure_count : goal.overflow_add-figure_count
overflow_add-figure_count c = omega (arith, c.figure_count.ensures, few_figures c.args.self.serial (omega arith))

pub returns-then-out-figure_count : goal.returns-then-out-figure_count
returns-then-out-figure_count c =
    let h = unrefused _ c.in_ok-check.ensures in
    refuses_room _ (header_of c.args.self.slot c.args.self.kind c.args.self.serial) c.args.out.now h (omega (arith, short_header c.args.self.slot c.args.self.kind c.args.self.serial h (omega arith), c.figure_count.ensures, c.if-out-figure_count.true))

pub header-requires : goal.header-requires
header-requires c =
    let h = unrefused _ c.in_ok-check.ensures in
    omega (arith, short_header c.args.self.slot c.args.self.kind c.args.self.serial h (omega arith), c.figure_count.ensures, c.if-out-figure_count.false)
