use Rattle.std.proofs.Common.{◌≡◌, true, sym, ap, ◌∙◌, subst, arith, lit≤}
use Rattle.sealed.specs.Hex.{Byte, hex_of}
use Rattle.book.specs.Book.{good_key}
use Rattle.std.specs.List.{AllByRecursion}
use Rattle.phrases.proofs.Inner.{no_inner, inner_facts, key_line, no_digits, key_bytes, no_key}
use Rattle.phrases.proofs.given.read_key_line.Goals as goal

pub returns-in_err-inner : goal.returns-in_err-inner
returns-in_err-inner c = rw c.from_residual.ensures (no_inner _ c.in_err-inner.ensures)

pub returns-in_err-len : goal.returns-in_err-len
returns-in_err-len c =
    rw c.from_residual-in_err-len.ensures (λ slot key k.
    let f = inner_facts _ _ c.in_ok-inner.ensures slot key k in
    no_digits c.in_ok-inner.inner.now _ _ c.in_err-len.ensures (lit≤ tt) key f.3 k.key_bytes k.key_good)

pub returns-in_err-key : goal.returns-in_err-key
returns-in_err-key c =
    rw c.from_residual-in_err-key.ensures (λ slot key k.
    let f = inner_facts _ _ c.in_ok-inner.ensures slot key k in
    no_key c.in_ok-inner.inner.now _ _ c.in_ok-len.len c.in_ok-len.ensures c.in_err-key.ensures key f.3 k.key_bytes k.key_good)

pub returns : goal.returns
returns c =
    let b = key_bytes c.in_ok-inner.inner.now _ _ c.in_ok-len.len c.in_ok-len.ensures in
    let k = c.in_ok-key.ensures in
    let is = sym (k.1 ∙ b.3) in
    key_line _ _ c.in_ok-inner.ensures _ _ (omega arith) (omega arith) (omega arith) (b.2 ∙ ap hex_of is) (omega arith) (subst (AllByRecursion Byte) is b.1) (subst (λ x. good_key x ≡ true) (sym k.1) k.0)
