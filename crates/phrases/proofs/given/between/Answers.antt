use Rattle.std.proofs.Common.{◌++◌, Some, None}
use Rattle.std.proofs.lemmas.Bool.Decides.{Decides-eqb}
use Rattle.std.proofs.lemmas.Slice.Eq.{strip_prefix_is, strip_suffix_is}
use Rattle.phrases.proofs.Inner.{between_from}
use Rattle.phrases.proofs.given.between.Goals as goal

pub returns-in_err-strip_prefix : goal.returns-in_err-strip_prefix
returns-in_err-strip_prefix c =
    rw c.from_residual.ensures (λ inner e. strip_prefix_is Decides-eqb c.args.line.now c.args.front.now None c.in_err-strip_prefix.ensures.cases (inner ++ c.args.end.now) e)

pub returns : goal.returns
returns c =
    between_from c.args.line.now c.args.front.now c.args.end.now c.in_ok-strip_prefix.field-0.now _ (strip_prefix_is Decides-eqb c.args.line.now c.args.front.now (Some c.in_ok-strip_prefix.field-0) c.in_ok-strip_prefix.ensures.cases) (strip_suffix_is Decides-eqb _ c.args.end.now _ c.strip_suffix.ensures.cases)
