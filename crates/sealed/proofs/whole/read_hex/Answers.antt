use Rattle.std.proofs.Common.{◌++◌, drop, sym, refl, ap, ◌∙◌, subst, arith}
use Rattle.std.specs.List.{AllByRecursion}
use Rattle.std.proofs.lemmas.Bool.Decides.{not_from_Decides}
use Rattle.sealed.specs.Hex.{HexDigit, bytes_of}
use Rattle.sealed.proofs.Hexes.{bytes_small, hex_digits}
use Rattle.sealed.proofs.Wholes.{hex_even, whole_hex}
use Rattle.sealed.proofs.whole.read_hex.Goals as goal
use Rattle.sealed.proofs.whole.read_hex.Goals.{then-len-ne0-via-then-len-ne0, then-len-ne0-via-else-len-ne0+then-out-len}

pub returns-then-len-ne0 : goal.returns-then-len-ne0
returns-then-len-ne0 c = (
  (λ bytes small room e.
      let twice = hex_even c.args.text.now bytes e in
      elim c.then-len-ne0.branch [ then-len-ne0-via-then-len-ne0 w ↦ w.if-len-ne0.true (omega arith) | then-len-ne0-via-else-len-ne0+then-out-len w ↦ omega (arith, w.if-out-len.true) ]),
  refl,
)

pub returns-then-not-all_hex : goal.returns-then-not-all_hex
returns-then-not-all_hex c = ((λ bytes small room e. not_from_Decides _ c.all_hex.ensures c.if-not-all_hex.true (subst (AllByRecursion HexDigit) (sym e) (hex_digits bytes small))), refl)

pub put_bytes-requires : goal.put_bytes-requires
put_bytes-requires c = omega (arith, (whole_hex c.args.text.now c.if-len-ne0.false (c.all_hex.ensures.0 c.if-not-all_hex.false)).1, c.if-out-len.false)

pub returns : goal.returns
returns c =
    let text = c.args.text.now in
    let w = whole_hex text c.if-len-ne0.false (c.all_hex.ensures.0 c.if-not-all_hex.false) in
    let n = c.put_bytes.ensures.len in
    (bytes_of text, bytes_small text, w.0, n, omega (arith, n, w.1, c.if-out-len.false), c.put_bytes.ensures.after ∙ ap (λ k. bytes_of text ++ drop k c.args.out.now) (sym n))
