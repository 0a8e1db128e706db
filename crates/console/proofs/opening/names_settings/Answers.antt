use Rattle.sealed.specs.Sheet.{parts_of}
use Rattle.std.proofs.lemmas.Bool.{false≢true}
use Rattle.console.proofs.Named.{names_decided}
use Rattle.console.proofs.opening.names_settings.Goals as goal

pub returns-in-Ok : goal.returns-in-Ok
returns-in-Ok c =
    let r = c.in-Ok.ensures.reads in
    names_decided c.args.line.now (parts_of c.in-Ok.sheet) 2 c.kind.result r.lawful r.line c.kind.ensures

pub returns-in-Err : goal.returns-in-Err
returns-in-Err c =
    (λ e. absurd (false≢true e), λ named. absurd (c.in-Err.ensures.reads.0 (named.0, named.1, named.2)))
