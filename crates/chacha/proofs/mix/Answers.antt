use Rattle.std.proofs.Common.{set, ap}
use Rattle.chacha.specs.ChaCha.{line, rotl}
use Rattle.chacha.proofs.mix.Goals as goal

pub returns : goal.returns
unfolding line rotl
returns c = ap (set _ c.args.d) c.rotate_left.ensures
