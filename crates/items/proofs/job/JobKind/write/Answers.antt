use Rattle.std.proofs.Common.{◌≡◌, [], ◌∷◌, pos, codes, sym, subst, ap₂, w32, to_z, of_z, rules}
use Rattle.kinds.specs.Kind.{Writes}
use Rattle.patterns.specs.Pattern.{in_ranges, spelt}
use Rattle.items.specs.Job.{panel_numbers, cloth_numbers, coordinates, job_lawful, job_line}
use Rattle.items.specs.ValuesLemmas.{same_four}
use Rattle.items.proofs.job.JobKind.write.Goals as goal

pub returns-in-Panel : goal.returns-in-Panel
returns-in-Panel c =
    let n : to_z w32 (of_z w32 c.from.result) ≡ pos c.in-Panel.number = search rules in
    let k : to_z w32 (of_z w32 c.from-in-Panel.result) ≡ pos c.in-Panel.cloth = search rules in
    subst (λ y. Writes (job_lawful y) (job_line y) c.args.out.now c.write.new.out c.write.result) (sym c.in-Panel.is)
    (subst (λ vs. Writes (in_ranges (panel_numbers ∷ cloth_numbers ∷ []) vs) (spelt (codes "(panel # (cloth #))\n") vs) c.args.out.now c.write.new.out c.write.result) (ap₂ (λ a b. a ∷ b ∷ []) n k) c.write.ensures)

pub returns-in-Move : goal.returns-in-Move
returns-in-Move c =
    let x : to_z w32 (of_z w32 c.in-Move.to.x) ≡ c.in-Move.to.x = search rules in
    let y : to_z w32 (of_z w32 c.in-Move.to.y) ≡ c.in-Move.to.y = search rules in
    subst (λ y. Writes (job_lawful y) (job_line y) c.args.out.now c.write-in-Move.new.out c.write-in-Move.result) (sym c.in-Move.is)
    (subst (λ vs. Writes (in_ranges (coordinates ∷ coordinates ∷ []) vs) (spelt (codes "(move (x #) (y #))\n") vs) c.args.out.now c.write-in-Move.new.out c.write-in-Move.result) (ap₂ (λ a b. a ∷ b ∷ []) x y) c.write-in-Move.ensures)

pub returns-in-Cut : goal.returns-in-Cut
returns-in-Cut c =
    let x : to_z w32 (of_z w32 c.in-Cut.to.x) ≡ c.in-Cut.to.x = search rules in
    let y : to_z w32 (of_z w32 c.in-Cut.to.y) ≡ c.in-Cut.to.y = search rules in
    subst (λ y. Writes (job_lawful y) (job_line y) c.args.out.now c.write-in-Cut.new.out c.write-in-Cut.result) (sym c.in-Cut.is)
    (subst (λ vs. Writes (in_ranges (coordinates ∷ coordinates ∷ []) vs) (spelt (codes "(cut (x #) (y #))\n") vs) c.args.out.now c.write-in-Cut.new.out c.write-in-Cut.result) (ap₂ (λ a b. a ∷ b ∷ []) x y) c.write-in-Cut.ensures)

pub returns-in-Mark : goal.returns-in-Mark
returns-in-Mark c =
    let x : to_z w32 (of_z w32 c.in-Mark.to.x) ≡ c.in-Mark.to.x = search rules in
    let y : to_z w32 (of_z w32 c.in-Mark.to.y) ≡ c.in-Mark.to.y = search rules in
    subst (λ y. Writes (job_lawful y) (job_line y) c.args.out.now c.write-in-Mark.new.out c.write-in-Mark.result) (sym c.in-Mark.is)
    (subst (λ vs. Writes (in_ranges (coordinates ∷ coordinates ∷ []) vs) (spelt (codes "(mark (x #) (y #))\n") vs) c.args.out.now c.write-in-Mark.new.out c.write-in-Mark.result) (ap₂ (λ a b. a ∷ b ∷ []) x y) c.write-in-Mark.ensures)

pub returns-in-Arc : goal.returns-in-Arc
returns-in-Arc c =
    let a : to_z w32 (of_z w32 c.in-Arc.via.x) ≡ c.in-Arc.via.x = search rules in
    let b : to_z w32 (of_z w32 c.in-Arc.via.y) ≡ c.in-Arc.via.y = search rules in
    let d : to_z w32 (of_z w32 c.in-Arc.to.x) ≡ c.in-Arc.to.x = search rules in
    let f : to_z w32 (of_z w32 c.in-Arc.to.y) ≡ c.in-Arc.to.y = search rules in
    subst (λ y. Writes (job_lawful y) (job_line y) c.args.out.now c.write-in-Arc.new.out c.write-in-Arc.result) (sym c.in-Arc.is)
    (subst (λ vs. Writes (in_ranges (coordinates ∷ coordinates ∷ coordinates ∷ coordinates ∷ []) vs) (spelt (codes "(arc (via (x #) (y #)) (to (x #) (y #)))\n") vs) c.args.out.now c.write-in-Arc.new.out c.write-in-Arc.result) (same_four _ _ _ _ _ _ _ _ a b d f) c.write-in-Arc.ensures)
