use Rattle.std.proofs.Common.{◌≡◌, ℕ, List, length, set, sym, ap, ◌∙◌, rules}
use Rattle.stream.proofs.Masks.{run_block}
use Rattle.chacha.specs.ChaCha.{serialised, mixed}
use Rattle.chacha.proofs.ReadyBlocks.block.Goals as goal

pub returns : goal.returns
returns c =
    let blocks : ℕ → List ℕ = λ n. serialised (mixed c.args.self.now.doubles (set c.args.self.now.state 12 n)) in
    let e : c.serialise.result ≡ blocks c.args.index = c.serialise.ensures ∙ ap serialised c.permute.ensures in
    let l : length c.serialise.result ≡ 64 = search rules in
    e ∙ run_block blocks c.args.index (ap length (sym e) ∙ l)
