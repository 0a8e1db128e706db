use Rattle.boxlaws.proofs.Empty.{no_key_answered, no_key_refused}
use Rattle.boxlaws.proofs.open_with_no_key.Goals as goal

pub returns : goal.returns
returns g c =
    let answer = no_key_answered _ _ _ g.K.Kind.NUMBER _ g.K.Kind.reading _ _ _ _ c.new-empty.ensures.empty c.open_line.ensures.answer in
    record { refused = no_key_refused _ _ _ answer; answer = answer }
