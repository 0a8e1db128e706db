use Rattle.std.proofs.Common.{◌≡◌, ◌≤◌, length, drop}
use Rattle.std.specs.Iterator.Adapters.{enumerate_source, enumerate_count}
use Rattle.kinds.specs.Text.{lines}
use Rattle.kinds.proofs.Along.{Filled}
use Rattle.kinds.proofs.text.fill_places.Given as goal

abbrev pub invariant-loop-place : goal.invariant-loop-place
invariant-loop-place g l =
    (goal.iterator-loop-place g).can_next l.place-iterator
    × (goal.iterator-loop-place g).is_finite l.place-iterator
    × (lines (enumerate_source l.place-iterator).rest.now ≡ drop (enumerate_count l.place-iterator) (lines l.text))
    × (enumerate_count l.place-iterator ≤ length (lines l.text))
    × Filled g.K.Kind.reading l.text l.initial.items l.items (enumerate_count l.place-iterator)
