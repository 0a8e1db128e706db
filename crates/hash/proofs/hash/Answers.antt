use Rattle.std.proofs.Common.{[]}
use Rattle.hash.proofs.hash.Goals as goal

pub returns : goal.returns
returns c =
    let s = c.args.strength in
    let keys = c.args.keys.now in
    c.finish.ensures s keys c.args.input.now (c.absorb.ensures s keys [] c.new-hasher.ensures)
