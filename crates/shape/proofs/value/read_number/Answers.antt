use Rattle.std.proofs.Common.{◌≡◌, rules, tests}
use Rattle.shape.proofs.Fronts.{whole, whole_reads}
use Rattle.shape.proofs.Signs.{numbers_are_digits}
use Rattle.shape.proofs.value.read_number.Goals as goal

pub returns : goal.returns
returns c =
    let r : c.map.result ≡ whole c.args.text.now c.leading_number.result = search (rules, tests) in
    record { value = rw r (whole_reads c.args.text.now _ c.leading_number.ensures); shaped = numbers_are_digits }
