-- From what a call of the code did to what an export promises, by whether the size is within the limits.
use Rattle.std.proofs.Common.{◌≡◌, ℕ, List, ℤ, sym, ap, ◌∙◌}
use Rattle.std.proofs.lemmas.Bool.{cond-true, cond-false}
use Rattle.grid.specs.Limits.{within}
use Rattle.tone.specs.Grey.{grey_algebra}
use Rattle.tone.specs.declared.grey.Grey.{Grey}
use Rattle.plan.specs.Knuth.{knuth_plan}
use Rattle.plan.specs.declared.knuth.Knuth.{Knuth}
use Rattle.quantiser.specs.Threshold.{by_threshold}
use Rattle.quantiser.specs.declared.threshold.Threshold.{Threshold}
use Rattle.model.specs.Jobs as pure
use Rattle.job.specs.declared.job.Job as code
use Rattle.job.specs.Meaning.{meant}
use Rattle.controller.specs.Exports.{grey_job, sized, Made, Barred}

-- the call was made, on the job that is told of
pub made_told : (X : Type 0) (rows columns : ℕ) (least : ℤ) (drawing : List Grey) (call : pure.Job Grey → X) (barred : X) (j : code.Job Knuth Threshold) → Made rows columns least j
    → (done : X) → done ≡ call (meant grey_algebra (λ p. knuth_plan) by_threshold j drawing) → done ≡ sized rows columns (call (grey_job rows columns least drawing)) barred
made_told X rows columns least drawing call barred j m done e = e ∙ ap call (m.same drawing) ∙ sym (cond-true (within rows columns) _ _ m.inside)

-- it was not
pub barred_told : (X : Type 0) (rows columns n : ℕ) → Barred rows columns n → (call : X) (barred : ℕ → X) → barred n ≡ sized rows columns call (barred 1)
barred_told X rows columns n b call barred = ap barred b.number ∙ sym (cond-false (within rows columns) _ _ b.outside)
