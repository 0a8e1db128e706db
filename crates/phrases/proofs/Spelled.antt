-- What a format writes, by the digits of its numbers.
use Rattle.std.proofs.Common.{◌≡◌, ℕ, ◌^◌, ◌<◌, List, ◌++◌, IfOk, Ok, Err, decimal, Result, sym, ap, ◌∙◌}
use Rattle.shape.specs.Decimal.{figures}
use Rattle.shape.proofs.Figures.{figures_are}

-- the same bytes under another name
pub made_as : {X Y : Type 0} (r : Result X Y) (of : X → List ℕ) (bs cs : List ℕ) → bs ≡ cs → IfOk r (λ s. of s ≡ bs) → IfOk r (λ s. of s ≡ cs)
made_as (Ok x) of bs cs e h = h ∙ e
made_as (Err y) of bs cs e h = tt

-- one number between two texts, and the same with more of them behind
pub one_number : (a b c : List ℕ) (n m : ℕ) → n ≡ m → m < 2 ^ 64 → b ≡ c → a ++ (decimal n ++ b) ≡ a ++ (figures m ++ c)
one_number a b c n m e h t =
    ap (λ x. a ++ (decimal x ++ b)) e ∙ ap (λ d. a ++ (d ++ b)) (sym (figures_are m h)) ∙ ap (λ x. a ++ (figures m ++ x)) t
