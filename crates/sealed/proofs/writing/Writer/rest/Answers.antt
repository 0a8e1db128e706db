use Rattle.sealed.proofs.Hexes.{length_hex}
use Rattle.sealed.proofs.Parts.{rest_left, room, step, finish}
use Rattle.sealed.proofs.writing.Writer.rest.Goals as goal

pub put-requires : goal.put-requires
put-requires c =
    let l₀ = rest_left c.args.self.now c.args.siv.now c.args.text.now c.requires in
    room l₀

pub hex-requires : goal.hex-requires
hex-requires c =
    let l₀ = rest_left c.args.self.now c.args.siv.now c.args.text.now c.requires in
    let l₁ = step l₀ c.put.ensures in
    rw (← length_hex c.args.siv.now) (room l₁)

pub put-requires-2 : goal.put-requires-2
put-requires-2 c =
    let l₀ = rest_left c.args.self.now c.args.siv.now c.args.text.now c.requires in
    let l₁ = step l₀ c.put.ensures in
    let l₂ = step l₁ c.hex.ensures in
    room l₂

pub hex-requires-2 : goal.hex-requires-2
hex-requires-2 c =
    let l₀ = rest_left c.args.self.now c.args.siv.now c.args.text.now c.requires in
    let l₁ = step l₀ c.put.ensures in
    let l₂ = step l₁ c.hex.ensures in
    let l₃ = step l₂ c.put-2.ensures in
    rw (← length_hex c.args.text.now) (room l₃)

pub put-requires-3 : goal.put-requires-3
put-requires-3 c =
    let l₀ = rest_left c.args.self.now c.args.siv.now c.args.text.now c.requires in
    let l₁ = step l₀ c.put.ensures in
    let l₂ = step l₁ c.hex.ensures in
    let l₃ = step l₂ c.put-2.ensures in
    let l₄ = step l₃ c.hex-2.ensures in
    room l₄

pub returns : goal.returns
returns c =
    let l₀ = rest_left c.args.self.now c.args.siv.now c.args.text.now c.requires in
    let l₁ = step l₀ c.put.ensures in
    let l₂ = step l₁ c.hex.ensures in
    let l₃ = step l₂ c.put-2.ensures in
    let l₄ = step l₃ c.hex-2.ensures in
    let l₅ = step l₄ c.put-3.ensures in
    finish l₅
