use Rattle.std.proofs.Common.{◌≡◌, ◌-◌, length, get_or, take, drop, arith}
use Rattle.std.proofs.lemmas.List.{take_rest, length-drop, length-take}
use Rattle.shape.specs.Form.{Digit}
use Rattle.shape.specs.Limits.{most_digits}
use Rattle.shape.specs.Token.{Runs}
use Rattle.shape.proofs.Carry.{drop_byte}
use Rattle.shape.proofs.Numbers.{plain_token, plain_none, zero_token, minus_token, minus_none}
use Rattle.shape.proofs.scan.number.Goals as goal
use Rattle.shape.proofs.scan.number.Goals.{in_default-via-then-s-lt1, in_default-via-else-s-lt1+in_default-1, then-digits-lt1, else-digits-lt1+in_default-1}

pub returns-then-n-gt0 : goal.returns-then-n-gt0
returns-then-n-gt0 c =
    plain_token c.args.s.now c.unsigned-n.result c.unsigned-n.ensures
    (λ l e. elim c.in_default.branch [ in_default-via-then-s-lt1 w ↦ grind (arith, l) | in_default-via-else-s-lt1+in_default-1 w ↦ grind (arith, e) ]) c.if-n-gt0.true

pub returns-else-n-gt0 : goal.returns-else-n-gt0
returns-else-n-gt0 c =
    plain_none c.args.s.now c.unsigned-n.result c.unsigned-n.ensures
    (λ l e. elim c.in_default.branch [ in_default-via-then-s-lt1 w ↦ grind (arith, l) | in_default-via-else-s-lt1+in_default-1 w ↦ grind (arith, e) ])
    (omega (arith, c.if-n-gt0.false))

pub returns-in-48 : goal.returns-in-48
returns-in-48 c =
    let s = c.args.s.now in
    let minus : get_or s 0 0 ≡ 45 = omega arith in
    let zero' : get_or (take (length s - 1) (drop 1 s)) 0 0 ≡ 48 = omega arith in
    zero_token s (drop 1 s) (drop_byte s 0 45 (omega arith) minus) (omega (arith, length-drop 1 s)) (rw take_rest at zero')

pub returns-then-n-gt0-2 : goal.returns-then-n-gt0-2
returns-then-n-gt0-2 c =
    let s = c.args.s.now in
    let minus : get_or s 0 0 ≡ 45 = omega arith in
    let run : Runs Digit most_digits (drop 1 s) c.run-n.result = rw take_rest at c.run-n.ensures in
    minus_token s (drop 1 s) (drop_byte s 0 45 (omega arith) minus) _ run (λ e.
    let e' : get_or (take (length s - 1) (drop 1 s)) 0 0 ≡ 48 = rw take_rest e in
    elim c.if-digits-lt1.branch [ then-digits-lt1 w ↦ grind (arith, length-drop, e', length-take) | else-digits-lt1+in_default-1 w ↦ omega (arith, e') ]) c.if-n-gt0-2.true

pub returns-else-n-gt0-2 : goal.returns-else-n-gt0-2
returns-else-n-gt0-2 c =
    let s = c.args.s.now in
    let minus : get_or s 0 0 ≡ 45 = omega arith in
    let run : Runs Digit most_digits (drop 1 s) c.run-n.result = rw take_rest at c.run-n.ensures in
    minus_none s (drop 1 s) (drop_byte s 0 45 (omega arith) minus) _ run (λ e.
    let e' : get_or (take (length s - 1) (drop 1 s)) 0 0 ≡ 48 = rw take_rest e in
    elim c.if-digits-lt1.branch [ then-digits-lt1 w ↦ grind (arith, length-drop, e', length-take) | else-digits-lt1+in_default-1 w ↦ omega (arith, e') ]) (omega (arith, c.if-n-gt0-2.false))
