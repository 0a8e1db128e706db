use Rattle.std.proofs.Common.{length, ap}
use Rattle.boxlaws.proofs.Replays.{stayed, replay}
use Rattle.boxlaws.proofs.open_twice.Goals as goal

pub returns : goal.returns
returns g c =
    let first = c.open_line-first.ensures in
    let next = c.open_line-first.new.self.table.slots in
    let mid = c.open_line-first.new.tray.items.now in
    let second = stayed _ _ g.K.Kind.NUMBER g.K.Kind.reading _ next next _ _ (length c.args.work.now) _ (ap (λ c. g.S.Stream.meaning c.stream) first.kept) (ap (λ c. c.strength) first.kept) c.open_line-first.auto.work mid _ _ c.open_line-second.ensures.answer in
    record {
      answers = (next, mid, first.answer, first.slots, second);
      replay = λ e. replay _ _ g.K.Kind.NUMBER g.K.Kind.reading _ _ next _ _ _ _ _ _ _ e first.answer first.slots second;
    }
