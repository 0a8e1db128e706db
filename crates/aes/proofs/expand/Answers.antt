use Rattle.std.proofs.Common.{◌≡◌, ◌+◌, ◌-◌, ◌*◌, length, sym, ap, ◌∙◌, arith, rules}
use Rattle.std.proofs.lemmas.List.{take_all, take_at, places}
use Rattle.stream.proofs.Arrays.{from_fn_same}
use Rattle.aes.specs.Aes.{grown, expanded_key, key_byte}
use Rattle.aes.proofs.Lists.{word_more, length_put_mid}
use Rattle.aes.proofs.expand.Goals as goal

pub loop-i-init : goal.loop-i-init
loop-i-init c = (
  search (rules, places),
  λ n e.
      let z : 0 ≡ n = omega arith in
      take_at c.copy_from_slice.new.self _ 32 c.copy_from_slice.ensures.len ∙ c.copy_from_slice.ensures.after ∙ ap (grown c.args.key.now) z,
)

pub loop-i-preserved : goal.loop-i-preserved
loop-i-preserved c =
    let i = c.loop-i.i-counter in
    let w = c.loop-i.w in
    let long : (4 * i + 4) - 4 * i ≡ 4 = omega arith in
    let word = c.copy_from_slice-in-loop-i.ensures.after ∙ from_fn_same _ (λ k. key_byte w i k) _ (λ k y f' h. search rules) _ 4 0 c.from_fn-word.ensures.items in
    rw long (length_put_mid (4 * i) 4 w _ (ap length word) (omega arith) ∙ c.loop-i.invariant.0, word_more c.args.key.now w _ i (omega arith) (omega arith) c.loop-i.invariant.1 word)

pub returns : goal.returns
unfolding expanded_key
returns c =
    let e : c.loop-i.i-counter ≡ 60 = omega arith in
    sym (take_all (4 * c.loop-i.i-counter) c.loop-i.w (omega arith)) ∙ c.loop-i.invariant.1 52 (sym e)
