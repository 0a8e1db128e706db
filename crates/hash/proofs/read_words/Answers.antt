use Rattle.std.proofs.Common.{◌≡◌, ◌*◌, ◌/◌, length, ap, ◌∙◌, arith, rules}
use Rattle.std.proofs.Math.Nat.{mul-div_cancel_left}
use Rattle.hash.proofs.Chunks.{words_more, words_all}
use Rattle.hash.proofs.read_words.Goals as goal

pub as_chunks-requires : goal.as_chunks-requires
as_chunks-requires g c = let some = g.met.W.Word.fits_memory in (omega (arith, some.1), some.0)

pub loop-i-preserved : goal.loop-i-preserved
loop-i-preserved g c =
    words_more g.W.Word.value c.loop-i.out c.as_chunks.result.0.now c.loop-i.i c.from_bytes.result c.index-words-i.result (search rules) c.loop-i-test.true c.from_bytes.ensures c.index-words-i.is c.loop-i.invariant

pub returns : goal.returns
returns g c =
    let n = g.row.BYTES in
    let out = c.loop-i.out in
    let bytes = c.args.bytes.now in
    let e : length bytes ≡ n * length out = search rules in
    let l : length bytes / n ≡ length out = ap (λ x. x / n) e ∙ mul-div_cancel_left (length out) g.met.W.Word.fits_memory.0 in
    words_all g.W.Word.value out c.as_chunks.result.0.now n bytes c.loop-i.i c.as_chunks.ensures.front l c.loop-i-test.false c.loop-i.invariant
