use Rattle.std.proofs.Common.{◌≡◌, ℕ, length, take, Ok, Err, sym, refl, ap, ◌∙◌, subst, arith}
use Rattle.std.proofs.lemmas.Result.{on_ok_weaker}
use Rattle.chacha.specs.Rounds.{chacha_of, count}
use Rattle.kinds.specs.Text.{Sheet}
use Rattle.keybox.specs.Opening.{LineAnswered}
use Rattle.phrases.specs.Printed.{opened_lines, refused_line}
use Rattle.console.proofs.Opens.{chacha_byte, sheet_there, given}
use Rattle.console.proofs.opening.open_as.Goals as goal

pub push_sheet-requires : goal.push_sheet-requires
push_sheet-requires g c =
    let f = chacha_of (count c.args.keys.now.cipher.stream.rounds) in
    let s = c.args.keys.now.cipher.strength in
    let slots = c.args.keys.now.table.slots in
    let n = c.in-Ok.field-0 in
    let before = c.new-tray.result.items.now in
    let after = c.open_line.new.tray.items.now in
    let A : ℕ → Type 0 = λ w. LineAnswered f s slots g.K.Kind.NUMBER w g.K.Kind.reading c.args.line.now before after (Ok n) in
    let sheet = sheet_there f (chacha_byte (count c.args.keys.now.cipher.stream.rounds)) s g.K.Kind.lawful g.K.Kind.line g.K.Kind.NUMBER g.K.Kind.reading g.met.K.Kind.numbered g.met.K.Kind.shaped g.met.K.Kind.found g.met.K.Kind.sound slots c.args.line.now before after n (subst A c.requires.0 c.in-Ok.ensures.answer) in
    let there : c.as_slice.result.now ≡ take n after = c.as_slice.ensures ∙ ap (λ k. take k after) c.in-Ok.ensures.tray.0 in
    (subst (Sheet g.K.Kind.lawful g.K.Kind.line) (sym there) sheet, omega arith)

pub returns-in-Ok : goal.returns-in-Ok
returns-in-Ok g c =
    let after = c.open_line.new.tray.items.now in
    let there : c.as_slice.result.now ≡ take c.in-Ok.field-0 after = c.as_slice.ensures ∙ ap (λ k. take k after) c.in-Ok.ensures.tray.0 in
    record {
      kept = c.in-Ok.ensures.kept;
      given = on_ok_weaker c.push_sheet.result
          (λ e. (opened_lines g.K.Kind.line c.as_slice.result.now, given (chacha_of (count c.args.keys.now.cipher.stream.rounds)) c.args.keys.now.cipher.strength g.K.Kind.lawful g.K.Kind.line g.K.Kind.NUMBER g.K.Kind.reading c.args.keys.now.table.slots c.open_line.new.self.table.slots c.args.line.now (length c.args.work.now) c.new-tray.result.items.now after (Ok c.in-Ok.field-0) c.requires.0 (ap length c.new-tray.ensures.items ∙ c.requires.1) c.in-Ok.ensures.answer c.in-Ok.ensures.slots c.in-Ok.ensures.noted c.in-Ok.ensures.law _ (ap (opened_lines g.K.Kind.line) there), e))
          c.push_sheet.ensures;
    }

pub returns-in-Err : goal.returns-in-Err
returns-in-Err g c =
    record {
      kept = c.in-Err.ensures.kept;
      given = on_ok_weaker c.push_refusal.result
          (λ e. (refused_line c.in-Err.why, given (chacha_of (count c.args.keys.now.cipher.stream.rounds)) c.args.keys.now.cipher.strength g.K.Kind.lawful g.K.Kind.line g.K.Kind.NUMBER g.K.Kind.reading c.args.keys.now.table.slots c.open_line.new.self.table.slots c.args.line.now (length c.args.work.now) c.new-tray.result.items.now c.open_line.new.tray.items.now (Err c.in-Err.why) c.requires.0 (ap length c.new-tray.ensures.items ∙ c.requires.1) c.in-Err.ensures.answer c.in-Err.ensures.slots c.in-Err.ensures.noted c.in-Err.ensures.law _ refl, e))
          c.push_refusal.ensures;
    }
