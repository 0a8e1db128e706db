use Rattle.std.proofs.Common.{◌-◌, ◌≤◌, length}
use Rattle.shape.specs.Form.{Tails}
use Rattle.shape.specs.Outcome.{Carries}
use Rattle.shape.proofs.+arguments_form.Given as goal

abbrev pub decreases-arguments : goal.decreases-arguments
decreases-arguments l = length l.s.now

abbrev pub decreases-form : goal.decreases-form
decreases-form l = length l.s.now

-- What is left of the arguments decides what is answered.
abbrev pub invariant-arguments-loop-at : goal.invariant-arguments-loop-at
invariant-arguments-loop-at l = (l.at ≤ length l.s) × Carries (Tails l.depth) l.s l.at

abbrev pub decreases-arguments-loop-at : goal.decreases-arguments-loop-at
decreases-arguments-loop-at l = length l.s - l.at
