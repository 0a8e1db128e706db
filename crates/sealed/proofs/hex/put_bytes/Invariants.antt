use Rattle.std.proofs.Common.{◌≡◌, ◌≤◌, ◌++◌, length, take, drop}
use Rattle.std.specs.Iterator.Adapters.{enumerate_source, enumerate_count}
use Rattle.std.specs.Slice.Iter.{chunks_exact_rest, chunks_exact_size}
use Rattle.sealed.specs.Hex.{bytes_of}
use Rattle.sealed.proofs.hex.put_bytes.Given as goal

abbrev pub invariant-loop-i : goal.invariant-loop-i
invariant-loop-i l =
    let pairs = enumerate_source l.i-iterator in
    let i = enumerate_count l.i-iterator in
    record {
      two : chunks_exact_size pairs ≡ 2;
      few : i ≤ length (bytes_of l.digits);
      rest : bytes_of (chunks_exact_rest pairs) ≡ drop i (bytes_of l.digits);
      done : l.out ≡ take i (bytes_of l.digits) ++ drop i l.initial.out;
    }
