use Rattle.std.proofs.Common.{◌≡◌, ℕ, ◌+◌, ◌-◌, [], length, get_or, take, drop, Ok, Err, Result, subst, sym, refl, ap, add-zero, ◌∙◌, ⊎_elim, arith, rules}
use Rattle.std.proofs.lemmas.List.{take_rest, drop_all, drop-drop, length-drop, nil_from_length}
use Rattle.shape.specs.Form.{Letter, Number, Tails, Forms}
use Rattle.shape.specs.Limits.{most_letters}
use Rattle.shape.specs.Token.{Runs, Token}
use Rattle.shape.specs.Outcome.{shift, Outcome}
use Rattle.shape.proofs.Numbers.{word_munch, word_is}
use Rattle.shape.proofs.Carry.{drop_byte, rest_byte, rest_after, shift_shift}
use Rattle.shape.proofs.Steps.{args_close, args_end, args_other, Argument, number_answers, form_answers, argument_ends, argument_goes, form_end, form_other, form_wordless, form_goes}
use Rattle.shape.proofs.+arguments_form.Goals as goal

pub arguments-returns-in-41 : goal.arguments-returns-in-41
arguments-returns-in-41 t c =
    let s = c.args.s.now in
    let at = c.loop-at.at in
    c.loop-at.invariant.1 (Ok 1) (args_close c.args.depth (drop at s) (drop (at + 1) s) (rest_byte s at 41 c.in-41.len_at_least (omega arith)).1)

pub arguments-returns-in_default : goal.arguments-returns-in_default
arguments-returns-in_default t c =
    let s = c.args.s.now in
    let at = c.loop-at.at in
    rw add-zero at (c.loop-at.invariant.1 (Err 0) (args_end c.args.depth (drop at s) [] (drop_all at s (omega (arith, ap length (take_rest s at), length-drop at s, c.in_default.len_below)))))

pub arguments-returns-in_default-2 : goal.arguments-returns-in_default-2
arguments-returns-in_default-2 t c =
    let s = c.args.s.now in
    let at = c.loop-at.at in
    let rest = take (length s - at) (drop at s) in
    let o = args_other c.args.depth (drop at s) (drop (at + 1) s) (get_or rest 0 0) (rest_byte s at (get_or rest 0 0) c.in_default.len_at_least refl).1 (λ e. grind (arith, e)) (λ e. grind (arith, e)) in
    rw add-zero at (c.loop-at.invariant.1 (Err 0) o)

pub arguments-loop-at-preserved-in-Ok : goal.arguments-loop-at-preserved-in-Ok
arguments-loop-at-preserved-in-Ok t c =
    let s = c.args.s.now in
    let at = c.loop-at.at in
    let d = c.args.depth in
    let u = drop (at + 1) s in
    let space = (rest_byte s at 32 c.in-32.len_at_least (omega arith)).1 in
    let i : Token Number u c.number.result = rw rest_after at c.number.ensures in
    let a = number_answers d (drop at s) u space _ i (λ e. absurd (search (rules, e))) in
    let P : Result ℕ ℕ → Type 0 = λ r. Argument d (drop at s) u space r in
    argument_goes d s at space c.loop-at.invariant.1 _ c.loop-at.invariant.0 (subst P c.in-Ok.is a)

pub arguments-returns-in-Err : goal.arguments-returns-in-Err
arguments-returns-in-Err t c =
    let s = c.args.s.now in
    let at = c.loop-at.at in
    let d = c.args.depth in
    let u = drop (at + 1) s in
    let space = (rest_byte s at 32 c.in-32.len_at_least (omega arith)).1 in
    let i : Token Number u c.number.result = rw rest_after at c.number.ensures in
    let deep : c.number.result ≡ Err 0 → d ≡ 0 = λ e.
    let j : ◌≡◌ {A = Result ℕ ℕ} (Err c.in-Err.n) (Err 0) = sym c.in-Err.is ∙ e in
    let z : c.in-Err.n ≡ 0 = cc in
    ⊎_elim (λ some. omega (arith, some, z)) (λ none. none.1) c.if-depth-eq0.either in
    let P : Result ℕ ℕ → Type 0 = λ r. Argument d (drop at s) u space r in
    argument_ends d s at space c.loop-at.invariant.1 (Err c.in-Err.n) (subst P c.in-Err.is (number_answers d (drop at s) u space _ i deep)) refl

pub arguments-returns-in_err-at-in-Err-2 : goal.arguments-returns-in_err-at-in-Err-2
arguments-returns-in_err-at-in-Err-2 t c =
    let s = c.args.s.now in
    let at = c.loop-at.at in
    let d = c.args.depth in
    let u = drop (at + 1) s in
    let space = (rest_byte s at 32 c.in-32.len_at_least (omega arith)).1 in
    let i : Token Number u c.number.result = rw rest_after at c.number.ensures in
    let e : c.number.result ≡ Err 0 = c.in-Err.is ∙ ap Err (omega (arith, c.if-depth-eq0.false)) in
    let a = form_answers d (drop at s) u space _ (rw e at i) (rw rest_after at c.form.ensures) in
    let r : c.from_residual.result ≡ shift (at + 1) c.form.result = search rules in
    rw r (argument_ends d s at space c.loop-at.invariant.1 _ a c.in_err-at-in-Err-2.ensures.variant)

pub arguments-loop-at-preserved : goal.arguments-loop-at-preserved
arguments-loop-at-preserved t c =
    let s = c.args.s.now in
    let at = c.loop-at.at in
    let d = c.args.depth in
    let u = drop (at + 1) s in
    let space = (rest_byte s at 32 c.in-32.len_at_least (omega arith)).1 in
    let i : Token Number u c.number.result = rw rest_after at c.number.ensures in
    let e : c.number.result ≡ Err 0 = c.in-Err.is ∙ ap Err (omega (arith, c.if-depth-eq0.false)) in
    let a = form_answers d (drop at s) u space _ (rw e at i) (rw rest_after at c.form.ensures) in
    let P : Result ℕ ℕ → Type 0 = λ r. Argument d (drop at s) u space r in
    let q : c.form.result ≡ Ok c.in_ok-at-in-Err-2.field-0 = search rules in
    argument_goes d s at space c.loop-at.invariant.1 _ c.loop-at.invariant.0 (subst P q a)

pub form-returns-in_default : goal.form-returns-in_default
form-returns-in_default t c = form_end c.args.depth c.requires c.args.s.now [] (nil_from_length c.args.s.now (omega (arith, c.in_default.len_below)))

pub form-returns-in_default-2 : goal.form-returns-in_default-2
form-returns-in_default-2 t c =
    let s = c.args.s.now in
    form_other c.args.depth c.requires s (drop 1 s) (get_or s 0 0) (drop_byte s 0 (get_or s 0 0) (omega (arith, c.in_default.len_at_least)) refl) (λ e. grind (arith, e))

pub form-returns-then-word-eq0 : goal.form-returns-then-word-eq0
form-returns-then-word-eq0 t c =
    let s = c.args.s.now in
    let bracket = drop_byte s 0 40 (omega (arith, c.in-40.len_at_least)) (omega arith) in
    let run : Runs Letter most_letters (drop 1 s) c.letters-word.result = rw take_rest at c.letters-word.ensures in
    let m = word_munch (drop 1 s) 0 (rw c.if-word-eq0.true at run) in
    form_wordless c.args.depth c.requires s (drop 1 s) bracket 0 m (λ w. omega (arith, w.0))

pub form-returns-in_err-n : goal.form-returns-in_err-n
form-returns-in_err-n t c =
    let s = c.args.s.now in
    let n = c.letters-word.result in
    let bracket = drop_byte s 0 40 (omega (arith, c.in-40.len_at_least)) (omega arith) in
    let run : Runs Letter most_letters (drop 1 s) n = rw take_rest at c.letters-word.ensures in
    let i : Outcome (Tails (c.args.depth - 1)) (drop n (drop 1 s)) c.arguments.result = rw (drop-drop, ← take_rest) c.arguments.ensures in
    let word = word_is (drop 1 s) n run (omega arith) in
    let r : c.from_residual.result ≡ shift (1 + n) c.arguments.result = search rules in
    rw (r, ← shift_shift) (form_goes c.args.depth c.requires s (drop 1 s) bracket n (word_munch (drop 1 s) n run) word _ i)

pub form-returns : goal.form-returns
form-returns t c =
    let s = c.args.s.now in
    let n = c.letters-word.result in
    let bracket = drop_byte s 0 40 (omega (arith, c.in-40.len_at_least)) (omega arith) in
    let run : Runs Letter most_letters (drop 1 s) n = rw take_rest at c.letters-word.ensures in
    let i : Outcome (Tails (c.args.depth - 1)) (drop n (drop 1 s)) c.arguments.result = rw (drop-drop, ← take_rest) c.arguments.ensures in
    let word = word_is (drop 1 s) n run (omega arith) in
    let r : Ok (1 + n + c.in_ok-n.n) ≡ shift (1 + n) c.arguments.result = search rules in
    let P : Result ℕ ℕ → Type 0 = λ x. Outcome (Forms c.args.depth) s x in
    subst P (sym r) (rw (← shift_shift) (form_goes c.args.depth c.requires s (drop 1 s) bracket n (word_munch (drop 1 s) n run) word _ i))
