use Rattle.std.proofs.Common.{◌≡◌, ℕ, length, get_or, sym, ◌∙◌, arith, rules}
use Rattle.std.proofs.lemmas.List.FromFn.{fill_by_all}
use Rattle.std.proofs.lemmas.Simd.{get_or-zip2, length-zip2}
use Rattle.stream.proofs.Arrays.{from_fn_same}
use Rattle.chacha.specs.ChaCha.{add32}
use Rattle.std.specs.Simd.Lanes.{zip2}
use Rattle.chacha.proofs.sums.Goals as goal

pub returns : goal.returns
returns c =
    let a = c.args.s.now in
    let b = c.args.more.now in
    let l : length a ≡ 16 = search rules in
    let m : length b ≡ 16 = search rules in
    let h : ℕ → ℕ = λ j. add32 (get_or a j 0) (get_or b j 0) in
    from_fn_same _ h _ (λ i y f' k. search rules) _ 16 0 c.from_fn.ensures.items
    ∙ sym (fill_by_all h (zip2 add32 a b) 16 0 (length-zip2 add32 a b (omega arith) ∙ l) (λ k lt. get_or-zip2 add32 a b k 0 0 0 (omega arith) (omega arith)))
