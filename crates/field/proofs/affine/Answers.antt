use Rattle.field.proofs.Products.{affine_rotated}
use Rattle.field.proofs.affine.Goals as goal

pub returns : goal.returns
returns c =
    let e = affine_rotated c.args.b c.ranges.b.fits in
    cc
