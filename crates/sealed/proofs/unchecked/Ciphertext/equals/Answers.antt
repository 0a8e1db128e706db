use Rattle.std.proofs.Common.{◌≡◌, ℕ, List, take, drop, Decides, sym, ap, ◌∙◌, subst, arith, rules}
use Rattle.std.proofs.lemmas.Slice.Eq.{slice_eq-Decides}
use Rattle.std.proofs.lemmas.Bool.Decides.{Decides-eqb}
use Rattle.std.proofs.lemmas.List.{take_at}
use Rattle.sealed.specs.Hex.{bytes_of}
use Rattle.sealed.proofs.unchecked.Ciphertext.equals.Goals as goal

pub returns : goal.returns
returns c =
    let d = c.in_ok-n.ensures in
    let n = c.in_ok-n.n in
    let text = bytes_of c.args.self.digits.now in
    let front : take n c.decode.new.work ≡ text = ap (take n) d.2 ∙ take_at text (drop n c.args.work.now) n (sym d.0) in
    let P : List ℕ → Type 0 = λ x. Decides c.eq.result (x ≡ c.args.bytes.now) in
    record { wiped = search rules; value = (omega (arith, d.0, d.1), subst P front (slice_eq-Decides Decides-eqb _ _ _ c.eq.ensures)) }
