use Rattle.std.proofs.Common.{◌≡◌, take, map}
use Rattle.hash.specs.Bytes.{number}
use Rattle.hash.proofs.read_words.Given as goal

abbrev pub invariant-loop-i : goal.invariant-loop-i
invariant-loop-i g l =
    map g.W.Word.value (take l.i l.out) ≡ map number (take l.i l.words)
