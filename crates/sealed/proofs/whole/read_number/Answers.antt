use Rattle.std.proofs.Common.{◌≡◌, ℕ, Bool, true, false, List, length, Some, None, Ok, Err, Decides, Result, sym, refl, ◌∙◌, subst, arith}
use Rattle.std.specs.Bool.{then_some}
use Rattle.std.specs.Result.{result_ok}
use Rattle.std.proofs.lemmas.Bool.{true≢false}
use Rattle.std.proofs.lemmas.Bool.Decides.{Decides-eqb}
use Rattle.std.proofs.lemmas.List.{take_all}
use Rattle.shape.specs.declared.value.Leading.{Leading}
use Rattle.sealed.specs.Frame.{Value, ReadsValue}
use Rattle.sealed.specs.Limits.{last_serial}
use Rattle.sealed.specs.Whole.{NumberRead}
use Rattle.sealed.proofs.Wholes.{ends_before, part_only, whole_number}
use Rattle.sealed.proofs.whole.read_number.Goals as goal

none : (text : List ℕ) (r : Result (Leading ℕ) ℕ) → ReadsValue 0 last_serial text r → None ≡ result_ok r → NumberRead text None
none text (Ok f) v was = absurd cc
none text (Err n) v was = λ m h e. part_only (Value 0 last_serial) text n v (whole_number text m h e)

found : (text : List ℕ) (r : Result (Leading ℕ) ℕ) (f : Leading ℕ) → ReadsValue 0 last_serial text r → Some f ≡ result_ok r → ReadsValue 0 last_serial text (Ok f)
found text (Ok g) f v was = let e : g ≡ f = cc in subst (λ x. ReadsValue 0 last_serial text (Ok x)) e v
found text (Err n) f v was = absurd cc

whole : (text : List ℕ) (f : Leading ℕ) → ReadsValue 0 last_serial text (Ok f) → (all : Bool) → Decides all (f.len ≡ length text) → NumberRead text (then_some all f.value)
whole text f v true d = (v.3, sym (take_all f.len text (omega (arith, d.0 refl))) ∙ v.1)
whole text f v false d = λ m h e. ends_before (Value 0 last_serial) text f.len v.0.0 (omega (arith, v.0.0.fits, λ (e : f.len ≡ length text). true≢false (sym (d.1 e)))) (whole_number text m h e)

pub returns-in_err-found : goal.returns-in_err-found
returns-in_err-found c = rw c.from_residual.ensures (none c.args.text.now c.read_value.result c.read_value.ensures (sym c.in_err-found.was ∙ c.ok.ensures.value))

pub returns : goal.returns
returns c = rw c.then_some.ensures (whole c.args.text.now c.in_ok-found.found (found c.args.text.now c.read_value.result c.in_ok-found.found c.read_value.ensures (sym c.in_ok-found.was ∙ c.ok.ensures.value)) _ (Decides-eqb _ _))
