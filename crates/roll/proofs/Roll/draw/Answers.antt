use Rattle.roll.proofs.Runs.{never_repeats}
use Rattle.roll.proofs.Roll.draw.Goals as goal

pub returns-in_err-last-clause-law : goal.returns-in_err-last-clause-law
returns-in_err-last-clause-law c = never_repeats

pub returns-clause-law : goal.returns-clause-law
returns-clause-law c = never_repeats
