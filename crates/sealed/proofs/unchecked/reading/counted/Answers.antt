use Rattle.std.proofs.Common.{◌<◌, length, get_or, arith}
use Rattle.std.proofs.ByRecursion.{All-more}
use Rattle.shape.specs.Form.{Digit}
use Rattle.sealed.proofs.Values.{value_next}
use Rattle.sealed.proofs.unchecked.reading.counted.Goals as goal

pub loop-len-preserved : goal.loop-len-preserved
loop-len-preserved c =
    let s = c.args.s.now in
    let n = c.loop-len.len in
    let l : n < length s = omega arith in
    let d : Digit (get_or s n 0) = c.if-not-is_ascii_digit.ensures.cases in
    let v = value_next s n c.loop-len.value l d c.loop-len.invariant.1 in
    (omega arith, omega (arith, v), All-more Digit s n 0 l c.loop-len.invariant.2 d)
