use Rattle.std.proofs.Common.{◌≡◌, length, ap, arith, rules}
use Rattle.std.proofs.lemmas.List.{take_rest, length-drop}
use Rattle.shape.specs.Form.{Forms}
use Rattle.shape.specs.Limits.{deepest}
use Rattle.shape.specs.Outcome.{Read}
use Rattle.shape.proofs.Carry.{rest_byte, byte_rest}
use Rattle.shape.proofs.Shapes.{one_reading, column_of, verdict_form, verdict_other, verdict_long, verdict_ok}
use Rattle.shape.proofs.read.Goals as goal
use Rattle.shape.proofs.read.Goals.{in_default-via-then-line-n-lt1, in_default-via-else-line-n-lt1+then-this-lt2+in_default-1, in_default-via-else-line-n-lt1+else-this-lt2+in_default-1}

pub returns-in_err-n : goal.returns-in_err-n
returns-in_err-n c =
    let r : c.from_residual.result ≡ column_of c.form.result = search rules in
    record { verdict = rw r (verdict_form c.args.line.now _ c.form.ensures c.in_err-n.ensures.variant); unique = one_reading }

pub returns-in-10 : goal.returns-in-10
returns-in-10 c =
    let l = c.args.line.now in
    let b = rest_byte l c.in_ok-n.n 10 (omega (arith, c.in-10.len_at_least)) (omega arith) in
    let o : Read (Forms deepest) l c.in_ok-n.n = search rules in
    record { verdict = verdict_ok l c.in_ok-n.n o b.0 b.2 (omega (arith, c.in-10.len_below, ap length (take_rest l c.in_ok-n.n), length-drop c.in_ok-n.n l)); unique = one_reading }

pub returns-in-10-2 : goal.returns-in-10-2
returns-in-10-2 c =
    let l = c.args.line.now in
    let b = rest_byte l c.in_ok-n.n 10 (omega (arith, c.in-10-2.len_at_least)) (omega arith) in
    let o : Read (Forms deepest) l c.in_ok-n.n = search rules in
    record { verdict = verdict_long l c.in_ok-n.n o b.0 b.2 (omega (arith, c.in-10-2.len_at_least, ap length (take_rest l c.in_ok-n.n), length-drop c.in_ok-n.n l)); unique = one_reading }

pub returns-in_default : goal.returns-in_default
returns-in_default c =
    let l = c.args.line.now in
    let o : Read (Forms deepest) l c.in_ok-n.n = search rules in
    record {
      verdict = verdict_other l c.in_ok-n.n o (λ h e.
          let r = byte_rest l c.in_ok-n.n 10 h e in
          elim c.in_default.branch [
            | in_default-via-then-line-n-lt1 w ↦ grind (arith, r)
            | in_default-via-else-line-n-lt1+then-this-lt2+in_default-1 w ↦ grind (arith, r)
            | in_default-via-else-line-n-lt1+else-this-lt2+in_default-1 w ↦ grind (arith, r)
          ]);
      unique = one_reading;
    }
