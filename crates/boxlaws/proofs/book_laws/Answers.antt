use Rattle.boxlaws.proofs.Keeps.{others_keep, refused_keep}
use Rattle.boxlaws.proofs.Opens.{set_anew}
use Rattle.boxlaws.proofs.book_laws.Goals as goal

pub returns : goal.returns
returns g c =
    record {
      others = others_keep (g.S.Stream.meaning c.args._cipher.now.stream) (g.met.S.Stream.byted c.args._cipher.now.stream) c.args._cipher.now.strength;
      refused = refused_keep _;
      anew = set_anew _;
    }
