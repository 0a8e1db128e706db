-- An attempt at reading a line that gave nothing.
use Rattle.std.proofs.Common.{◌≡◌, None, Option, MatchOption, sym, subst}

pub none_tried : {X : Type 0} (No : Type 0) (Yes : X → Type 0) (r : Option X) → r ≡ None → No → MatchOption r No Yes
none_tried No Yes r e n = subst (λ o. MatchOption o No Yes) (sym e) n
