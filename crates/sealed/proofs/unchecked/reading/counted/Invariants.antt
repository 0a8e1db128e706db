use Rattle.std.proofs.Common.{◌≡◌, ◌≤◌, take}
use Rattle.std.specs.Str.Parse.{digits_value}
use Rattle.std.specs.List.{AllByRecursion}
use Rattle.shape.specs.Form.{Digit}
use Rattle.sealed.proofs.unchecked.reading.counted.Given as goal

abbrev pub invariant-loop-len : goal.invariant-loop-len
invariant-loop-len l = (l.value ≤ l.high) × (l.value ≡ digits_value 10 (take l.len l.s)) × AllByRecursion Digit (take l.len l.s)
