use Rattle.std.proofs.Common.{◌≡◌, ◌+◌, ◌/◌, ◌*◌, ◌≤◌, Some, length, take, sym, ap, ◌∙◌, arith, rules}
use Rattle.std.proofs.lemmas.Bool.Decides.{nat_tests}
use Rattle.std.proofs.lemmas.List.{take_all}
use Rattle.columns.proofs.Spelled.{spelled, front_stays, appended}
use Rattle.columns.proofs.append.Goals as goal

pub returns : goal.returns
returns c =
    let s = c.args.text.now in
    let out = c.read_hex.new.out in
    let pairs = c.split_at.result.0.now in
    let at = c.len-at.result in
    let n : length out ≡ length pairs / 2 = search rules in
    let even : length c.split_at.result.1.now ≡ 0 = grind (arith, nat_tests) in
    let whole : length s ≤ length s / 2 * 2 = omega (arith, c.split_at.ensures.back_len, even, ap length c.as_bytes.ensures.value) in
    let all : pairs ≡ s = c.split_at.ensures.front ∙ ap (λ z. take (length s / 2 * 2) z) c.as_bytes.ensures.value ∙ take_all (length s / 2 * 2) s whole in
    let q : c.read_hex.result ≡ Some c.in_ok-context.field-0 = search rules in
    let r = spelled pairs _ out c.in_ok-context.field-0 (rw q at c.read_hex.ensures) (search rules) in
    let old = c.args.bytes.now.items in
    let long : length old ≡ at = search rules in
    let end : at + length out ≡ c.resize.new.self.len = search rules in
    let full : length c.deref_mut.result.now ≡ c.resize.new.self.len = search rules in
    let front = front_stays old _ c.deref_mut.result.now at (at + length pairs / 2) long (omega arith) (c.deref_mut.ensures.value ∙ c.in_ok-resize.ensures.items) in
    (out, (r.0, sym all ∙ r.1), appended old _ out _ at _ front long end full)
