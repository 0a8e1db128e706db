-- Writing part after part into an output.
use Rattle.std.specs.Prelude.{◌≡◌, ℕ, ◌+◌, List, length}
use Rattle.sealed.specs.declared.writing.Writer.{Writer}
use Rattle.sealed.specs.Writes.{over}

-- w is written from the place on, in the same output, whose place is then where w ends
pub record Puts (before after : Writer) (w : List ℕ) : Type 0 where
  pub at : after.at ≡ before.at + length w
  pub out : after.out.now ≡ over before.out.now before.at w
  pub same : after.out.ghost_name ≡ before.out.ghost_name
