use Rattle.std.proofs.Common.{◌≡◌, ◌+◌, ◌*◌, length, sym, ap, ◌∙◌, arith, rules}
use Rattle.std.proofs.lemmas.List.{map-id}
use Rattle.hash.specs.Strength.{hashes, nh_words}
use Rattle.hash.specs.Hash.{below60}
use Rattle.hash.proofs.Ints.{read_front}
use Rattle.hash.proofs.Whole.{hashes_le, hashes_some}
use Rattle.hash.proofs.HashKeys.read.Goals as goal

pub returns : goal.returns
returns c =
    let s = c.args.strength in
    let bytes = c.args.bytes.now in
    let t = c.hashes-t.result in
    let e = c.hashes-t.ensures in
    let le = hashes_le s in
    let some = hashes_some s in
    let l : length bytes ≡ 368 = search rules in
    record {
      words = read_front 4 (nh_words s) _ (4 * nh_words s) 32 32 bytes _ _ (sym (map-id _) ∙ c.read_words.ensures) (omega arith) (omega arith) (omega arith) (omega arith);
      points = ap below60 (read_front 8 (hashes s) _ (8 * hashes s) (32 + 4 * (12 + 4 * t)) (32 + 4 * nh_words s) bytes _ _ (sym (map-id _) ∙ c.read_words-2.ensures) (omega arith) (omega arith) (omega arith) (omega arith));
      scales = read_front 8 (3 * hashes s) _ (24 * hashes s) (32 + 4 * (12 + 4 * t) + 8 * t) (32 + 4 * nh_words s + 8 * hashes s) bytes _ _ (sym (map-id _) ∙ c.read_words-3.ensures) (omega arith) (omega arith) (omega arith) (omega arith);
    }
