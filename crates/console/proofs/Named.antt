-- The kind that a line names.
use Rattle.std.proofs.Common.{◌≡◌, ℕ, eqb, List, Decides, sym, ap, ◌∙◌}
use Rattle.std.proofs.lemmas.Bool.{eq-eqb, eqb-true}
use Rattle.sealed.specs.Line.{Parts, Lawful, sealed_line}
use Rattle.sealed.proofs.Pieces.{one_reading}
use Rattle.console.specs.Opening.{Names}

-- a line names no other kind than that of its parts
pub same_kind : (l : List ℕ) (p q : Parts) → Lawful p → Lawful q → l ≡ sealed_line p → l ≡ sealed_line q → p.kind ≡ q.kind
same_kind l p q good-p good-q ep eq = ap (λ (x : Parts). x.kind) (one_reading p q good-p good-q (sym ep ∙ eq))

pub names_decided : (l : List ℕ) (p : Parts) (kind k : ℕ) → Lawful p → l ≡ sealed_line p → k ≡ p.kind → Decides (eqb k kind) (Names kind l)
names_decided l p kind k good is ek = (
  λ e. (p, good, is, sym ek ∙ eqb-true k kind e),
  λ named. eq-eqb k kind (ek ∙ same_kind l p named.0 good named.1 is named.2 ∙ named.3),
)
