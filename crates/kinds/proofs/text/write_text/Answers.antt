use Rattle.std.proofs.Common.{◌≡◌, ◌+◌, ◌-◌, ◌≤◌, true, ◌++◌, length, take, drop, sym, refl, ap, ◌∙◌, subst, inl, inr, arith}
use Rattle.std.proofs.lemmas.Result.{err_from_is_err_and}
use Rattle.std.proofs.lemmas.List.{take_rest, length-drop}
use Rattle.std.proofs.ByRecursion.{All-get_or}
use Rattle.kinds.specs.Text.{text_of, SameText}
use Rattle.kinds.proofs.Measured.{write_granted, next_text, no_text}
use Rattle.kinds.proofs.Overwrite.{Over, over_none, over_part, over_room, over_all}
use Rattle.kinds.proofs.Sheets.{same_text}
use Rattle.kinds.proofs.text.write_text.Given as given
use Rattle.kinds.proofs.text.write_text.Goals as goal
use Rattle.kinds.proofs.text.write_text.Goals.{After-item-item}

same : (g : given.Over) → SameText g.K.Kind.lawful g.K.Kind.line
same g = same_text g.K.Kind.reading g.K.Kind.lawful g.K.Kind.line g.met.K.Kind.shaped g.met.K.Kind.found g.met.K.Kind.sound

pub returns-in_err-len : goal.returns-in_err-len
returns-in_err-len g c =
    let p = err_from_is_err_and c.from_residual.result c.from_residual.ensures.1 in
    record { answer = rw (p.1, p.2) (inl c.in_err-len.ensures, refl); same = same g }

pub returns-then-out-len : goal.returns-then-out-len
returns-then-out-len g c =
    let m = c.in_ok-len.ensures in
    record { answer = (inr (m.0, omega arith, refl), refl); same = same g }

pub loop-item-init : goal.loop-item-init
loop-item-init g c = over_none (text_of g.K.Kind.line c.args.items.now) c.args.out.now

-- what is written so far, with the line of this item still to come
next : (g : given.Over) (c : After-item-item g) → Over (text_of g.K.Kind.line c.args.items.now) c.args.out.now c.loop-item.out c.loop-item.at (g.K.Kind.line c.item-item.result ++ text_of g.K.Kind.line (drop (c.loop-item.item-index + 1) c.args.items.now))
next g c =
    subst (λ z. Over (text_of g.K.Kind.line c.args.items.now) c.args.out.now c.loop-item.out c.loop-item.at z) (next_text g.K.Kind.line c.args.items.now c.loop-item.item-index c.item-item.result c.loop-item-test.true c.item-item.is) c.loop-item.invariant

-- there is room for that line
room : (g : given.Over) (c : After-item-item g) → c.loop-item.at + length (g.K.Kind.line c.item-item.result) ≤ length c.loop-item.out
room g c = over_room (text_of g.K.Kind.line c.args.items.now) c.args.out.now c.loop-item.out c.loop-item.at (g.K.Kind.line c.item-item.result) (text_of g.K.Kind.line (drop (c.loop-item.item-index + 1) c.args.items.now)) (omega (arith, c.in_ok-len.ensures.1)) (next g c)

pub returns-in_err-n : goal.returns-in_err-n
returns-in_err-n g c =
    let xs = c.args.items.now in
    let i = c.loop-item.item-index in
    let x = c.item-item.result in
    let out = c.loop-item.out in
    let at = c.loop-item.at in
    let part : length (take (length out - at) (drop at out)) ≡ length out - at = ap length (take_rest out at) ∙ length-drop at out in
    let good : g.K.Kind.lawful x ≡ true = ap g.K.Kind.lawful c.item-item.is ∙ All-get_or (λ y. g.K.Kind.lawful y ≡ true) xs i x c.loop-item-test.true c.in_ok-len.ensures.0.all_lawful in
    absurd (write_granted _ _ _ _ _ good (omega (arith, room g (goal.at.returns-in_err-n g c).After-item-item)) c.in_err-n.ensures)

pub loop-item-preserved : goal.loop-item-preserved
loop-item-preserved g c =
    let k = c.in_ok-n.ensures in
    over_part (text_of g.K.Kind.line c.args.items.now) c.args.out.now c.loop-item.out c.loop-item.at (g.K.Kind.line c.item-item.result) (text_of g.K.Kind.line (drop (c.loop-item.item-index + 1) c.args.items.now)) _ _ _ (next g (goal.at.loop-item-preserved g c).After-item-item) k.1 refl k.3

pub returns : goal.returns
returns g c =
    let xs = c.args.items.now in
    let w = text_of g.K.Kind.line xs in
    let m = c.in_ok-len.ensures in
    let o = subst (λ z. Over w c.args.out.now c.loop-item.out c.loop-item.at z) (no_text g.K.Kind.line xs c.loop-item.item-index c.loop-item-test.false) c.loop-item.invariant in
    record {
      answer = (m.0, m.1, c.if-out-len.false, (over_all w c.args.out.now c.loop-item.out c.loop-item.at o).1 ∙ ap (λ n. w ++ drop n c.args.out.now) (sym m.1));
      same = same g;
    }
