use Rattle.std.proofs.Common.{◌≡◌, Bool, true, false, codes, sym, refl, ◌∙◌}
use Rattle.std.specs.Bool.{Decides, then_some}
use Rattle.items.specs.Job.{job_reading}
use Rattle.std.proofs.lemmas.Slice.Eq.{slice_eq-Decides}
use Rattle.std.proofs.lemmas.Bool.Decides.{not_from_Decides, Decides-eqb}
use Rattle.items.specs.declared.job.JobItem.TheVariants.{Move, Cut, Mark, End}
use Rattle.items.specs.Jobs.{job_answer, no_job}
use Rattle.items.proofs.job.JobKind.read.Goals as goal

pub returns-in-Some : goal.returns-in-Some
returns-in-Some c = job_answer c.args.text.now c.in-Some.item c.in-Some.ensures

pub returns-in-Some-read_point : goal.returns-in-Some-read_point
returns-in-Some-read_point c = job_answer c.args.text.now (Move c.in-Some-read_point.to) c.in-Some-read_point.ensures

pub returns-in-Some-read_point-2 : goal.returns-in-Some-read_point-2
returns-in-Some-read_point-2 c = job_answer c.args.text.now (Cut c.in-Some-read_point-2.to) c.in-Some-read_point-2.ensures

pub returns-in-Some-read_point-3 : goal.returns-in-Some-read_point-3
returns-in-Some-read_point-3 c = job_answer c.args.text.now (Mark c.in-Some-read_point-3.to) c.in-Some-read_point-3.ensures

pub returns-in-Some-read_arc : goal.returns-in-Some-read_arc
returns-in-Some-read_arc c = job_answer c.args.text.now c.in-Some-read_arc.item c.in-Some-read_arc.ensures

pub returns : goal.returns
returns c = c.then_some.ensures ∙ ended c.eq.result (slice_eq-Decides Decides-eqb _ _ _ c.eq.ensures)
  where
    ended : (b : Bool) → Decides b (c.args.text.now ≡ codes "(end)\n") → then_some b End ≡ job_reading c.args.text.now
    ended true d = job_answer c.args.text.now End (refl, sym (d.0 refl))
    ended false d =
        no_job c.args.text.now c.in_default.ensures (c.in_default-read_point.ensures refl) (c.in_default-read_point-2.ensures refl) (c.in_default-read_point-3.ensures refl) c.in_default-read_arc.ensures (not_from_Decides false d refl)
