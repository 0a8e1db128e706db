use Rattle.std.proofs.Common.{◌≡◌, ◌+◌, is_some, sym, refl, ap, ◌∙◌, arith}
use Rattle.std.proofs.lemmas.Bool.{false≢true}
use Rattle.std.proofs.lemmas.Bool.Decides.{nat_tests}
use Rattle.refusal.specs.declared.Refusal.TheVariants.{NoSheet}
use Rattle.kinds.specs.Limits.{most_items}
use Rattle.kinds.specs.Text.{ReadsItsText}
use Rattle.kinds.proofs.Sheets.{one_answer, reads_its_text}
use Rattle.kinds.proofs.Cut.{lines_none}
use Rattle.kinds.proofs.Along.{along_none, along_many, along_all, along_fault, along_next, comes_next, more, one_left, all_past}
use Rattle.kinds.proofs.text.check.Given as given
use Rattle.kinds.proofs.text.check.Goals as goal

inverse : (g : given.Over) → ReadsItsText g.K.Kind.lawful g.K.Kind.line g.K.Kind.reading
inverse g = reads_its_text g.K.Kind.reading g.K.Kind.lawful g.K.Kind.line g.met.K.Kind.shaped g.met.K.Kind.found g.met.K.Kind.sound

pub loop-count-init : goal.loop-count-init
loop-count-init g c = (refl, omega arith, along_none g.K.Kind.reading c.args.text.now)

pub returns-in_default : goal.returns-in_default
returns-in_default g c =
    let i = c.loop-count.invariant in
    record {
      answer = along_all g.K.Kind.reading c.args.text.now _ i.2 i.1 (all_past g.K.Kind.reading c.args.text.now _ _ i.0 c.in_default.ensures.steps.0);
      one = one_answer g.K.Kind.reading;
      inverse = inverse g;
    }

pub returns-then-is_none : goal.returns-then-is_none
returns-then-is_none g c =
    let i = c.loop-count.invariant in
    record {
      answer = (_, _, along_fault g.K.Kind.reading c.args.text.now _ _ _ _ i.0 c.in-Some.ensures.steps _ i.2 c.loop-count-test.true (λ k. false≢true (sym c.if-is_none.ensures ∙ ap is_some c.read.ensures ∙ k)) c.fault_column.ensures, refl);
      one = one_answer g.K.Kind.reading;
      inverse = inverse g;
    }

pub loop-count-preserved : goal.loop-count-preserved
loop-count-preserved g c =
    let i = c.loop-count.invariant in
    let step = c.in-Some.ensures.steps in (
      comes_next g.K.Kind.reading c.args.text.now _ _ _ _ i.0 step,
      omega (arith, more g.K.Kind.reading c.args.text.now _ _ _ _ i.0 step),
      along_next g.K.Kind.reading c.args.text.now _ _ _ _ i.0 step i.2 c.loop-count-test.true (sym (ap is_some c.read.ensures) ∙ c.if-is_none.ensures),
    )

pub returns-then-is_empty : goal.returns-then-is_empty
returns-then-is_empty g c =
    let i = c.loop-count.invariant in
    let rest = c.loop-count.lines.rest.now in
    let full : c.loop-count.count ≡ most_items = omega (arith, i.2.few, c.loop-count-test.false) in
    let past = all_past g.K.Kind.reading c.args.text.now _ _ i.0 (lines_none rest (grind (arith, nat_tests))) in
    let all = along_all g.K.Kind.reading c.args.text.now _ i.2 i.1 past in
    record {
      answer = (all.0, all.1, sym full ∙ all.2);
      one = one_answer g.K.Kind.reading;
      inverse = inverse g;
    }

pub overflow_add-result-2 : goal.overflow_add-result-2
overflow_add-result-2 g c = omega arith

pub returns : goal.returns
returns g c =
    let i = c.loop-count.invariant in
    let rest = c.loop-count.lines.rest.now in
    let full : c.loop-count.count ≡ most_items = omega (arith, i.2.few, c.loop-count-test.false) in
    let more' = one_left g.K.Kind.reading c.args.text.now _ rest i.0 (grind (arith, nat_tests)) in
    record {
      answer = (_, _, along_many g.K.Kind.reading c.args.text.now _ i.2 more' full, ap (λ n. NoSheet (n + 1) 0) (sym full));
      one = one_answer g.K.Kind.reading;
      inverse = inverse g;
    }
