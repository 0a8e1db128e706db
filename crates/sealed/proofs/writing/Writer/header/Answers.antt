use Rattle.sealed.proofs.Parts.{header_left, room, step, finish}
use Rattle.sealed.proofs.writing.Writer.header.Goals as goal

pub put-requires : goal.put-requires
put-requires c =
    let l₀ = header_left c.args.self.now c.args.label.slot c.args.label.kind c.args.label.serial c.requires in
    room l₀

pub figures-requires : goal.figures-requires
figures-requires c =
    let l₀ = header_left c.args.self.now c.args.label.slot c.args.label.kind c.args.label.serial c.requires in
    let l₁ = step l₀ c.put.ensures in
    rw c.from.ensures (room l₁)

pub put-requires-2 : goal.put-requires-2
put-requires-2 c =
    let l₀ = header_left c.args.self.now c.args.label.slot c.args.label.kind c.args.label.serial c.requires in
    let l₁ = step l₀ c.put.ensures in
    let l₂ = step l₁ (rw c.from.ensures at c.figures.ensures) in
    room l₂

pub figures-requires-2 : goal.figures-requires-2
figures-requires-2 c =
    let l₀ = header_left c.args.self.now c.args.label.slot c.args.label.kind c.args.label.serial c.requires in
    let l₁ = step l₀ c.put.ensures in
    let l₂ = step l₁ (rw c.from.ensures at c.figures.ensures) in
    let l₃ = step l₂ c.put-2.ensures in
    rw c.from-2.ensures (room l₃)

pub put-requires-3 : goal.put-requires-3
put-requires-3 c =
    let l₀ = header_left c.args.self.now c.args.label.slot c.args.label.kind c.args.label.serial c.requires in
    let l₁ = step l₀ c.put.ensures in
    let l₂ = step l₁ (rw c.from.ensures at c.figures.ensures) in
    let l₃ = step l₂ c.put-2.ensures in
    let l₄ = step l₃ (rw c.from-2.ensures at c.figures-2.ensures) in
    room l₄

pub figures-requires-3 : goal.figures-requires-3
figures-requires-3 c =
    let l₀ = header_left c.args.self.now c.args.label.slot c.args.label.kind c.args.label.serial c.requires in
    let l₁ = step l₀ c.put.ensures in
    let l₂ = step l₁ (rw c.from.ensures at c.figures.ensures) in
    let l₃ = step l₂ c.put-2.ensures in
    let l₄ = step l₃ (rw c.from-2.ensures at c.figures-2.ensures) in
    let l₅ = step l₄ c.put-3.ensures in
    room l₅

pub put-requires-4 : goal.put-requires-4
put-requires-4 c =
    let l₀ = header_left c.args.self.now c.args.label.slot c.args.label.kind c.args.label.serial c.requires in
    let l₁ = step l₀ c.put.ensures in
    let l₂ = step l₁ (rw c.from.ensures at c.figures.ensures) in
    let l₃ = step l₂ c.put-2.ensures in
    let l₄ = step l₃ (rw c.from-2.ensures at c.figures-2.ensures) in
    let l₅ = step l₄ c.put-3.ensures in
    let l₆ = step l₅ c.figures-3.ensures in
    room l₆

pub returns : goal.returns
returns c =
    let l₀ = header_left c.args.self.now c.args.label.slot c.args.label.kind c.args.label.serial c.requires in
    let l₁ = step l₀ c.put.ensures in
    let l₂ = step l₁ (rw c.from.ensures at c.figures.ensures) in
    let l₃ = step l₂ c.put-2.ensures in
    let l₄ = step l₃ (rw c.from-2.ensures at c.figures-2.ensures) in
    let l₅ = step l₄ c.put-3.ensures in
    let l₆ = step l₅ c.figures-3.ensures in
    let l₇ = step l₆ c.put-4.ensures in
    finish l₇
