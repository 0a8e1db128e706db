use Rattle.std.proofs.Common.{◌≡◌, sym, subst}
use Rattle.field.specs.Field.{inverse, Inverse}
use Rattle.field.proofs.Products.{inverts}
use Rattle.field.proofs.inverse.Goals as goal

pub returns : goal.returns
unfolding inverse
returns c =
    let a = c.args.a in
    let e : c.multiply-2.result ≡ inverse a = cc in
    record { value = e; inverts = subst (Inverse a) (sym e) (inverts a c.ranges.a.fits) }
