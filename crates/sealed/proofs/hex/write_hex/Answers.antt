use Rattle.std.proofs.Common.{arith}
use Rattle.sealed.specs.Hex.{hex_of}
use Rattle.sealed.proofs.Hexes.{length_hex}
use Rattle.sealed.proofs.Refusals.{writes_short}
use Rattle.sealed.proofs.hex.write_hex.Goals as goal

pub returns-then-out-bytes : goal.returns-then-out-bytes
returns-then-out-bytes c = writes_short (hex_of c.args.bytes.now) c.args.out.now (omega (arith, length_hex c.args.bytes.now, c.if-out-bytes.true))
