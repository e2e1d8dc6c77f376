-- What an export promises: the call that it stands for, on the job that its numbers tell of.
use Rattle.std.specs.Prelude.{◌≡◌, ℕ, true, false, cond, List, ℤ}
use Rattle.grid.specs.Limits.{within}
use Rattle.tone.specs.Grey.{grey_algebra, no_grey}
use Rattle.tone.specs.declared.grey.Grey.{Grey}
use Rattle.plan.specs.Knuth.{knuth_plan}
use Rattle.plan.specs.declared.knuth.Knuth.{Knuth}
use Rattle.quantiser.specs.Threshold.{by_threshold}
use Rattle.quantiser.specs.declared.threshold.Threshold.{Threshold}
use Rattle.model.specs.Calls.Answer.{Code, Followed, Count, Resumed, Totals, Refused}
use Rattle.model.specs.Calls as calls
use Rattle.model.specs.Jobs as pure
use Rattle.model.specs.Jobs.{job_of}
use Rattle.job.specs.declared.job.Job as code
use Rattle.job.specs.Meaning.{meant}
use Rattle.controller.specs.declared.answer.Answer.{Answer}
use Rattle.controller.specs.declared.tally.Tally.{Tally}

-- Knuth's plan and a threshold on a grey drawing
abbrev pub grey_job : ℕ → ℕ → ℤ → List Grey → pure.Job Grey
grey_job rows columns least drawing = job_of grey_algebra rows columns knuth_plan (by_threshold (record { least = least })) drawing

-- what a call does on a size within the limits, and what is done on any other
abbrev pub sized : {X : Type 0} → ℕ → ℕ → X → X → X
sized rows columns call barred = cond (within rows columns) call barred

-- an answer of the model as two numbers: the refusal's number is 0 where there is none, and the count is 0 where there is nothing to count
abbrev pub answer : ℕ → ℕ → Answer
answer count refusal = record { count = count; refusal = refusal }

abbrev pub shown : calls.Answer Grey → Answer
shown (Code c) = answer c 0
shown (Followed n k) = answer n k
shown (Count n) = answer n 0
shown Resumed = answer 0 0
shown (Totals a b c d) = answer 0 0
shown (Refused k) = answer 0 k

-- Tally's answer: four totals, all 0 where it is refused
abbrev pub tally : Grey → Grey → Grey → Grey → ℕ → Tally
tally drawing outputs losses amounts refusal = record { drawing = drawing; outputs = outputs; losses = losses; amounts = amounts; refusal = refusal }

abbrev pub tallied : calls.Answer Grey → Tally
tallied (Code c) = tally no_grey no_grey no_grey no_grey 0
tallied (Followed n k) = tally no_grey no_grey no_grey no_grey k
tallied (Count n) = tally no_grey no_grey no_grey no_grey 0
tallied Resumed = tally no_grey no_grey no_grey no_grey 0
tallied (Totals a b c d) = tally a b c d 0
tallied (Refused k) = tally no_grey no_grey no_grey no_grey k

-- a job of the code that is the one told of, on every drawing
pub record Made (rows columns : ℕ) (least : ℤ) (j : code.Job Knuth Threshold) : Type 0 where
  pub inside : within rows columns ≡ true
  pub same : (drawing : List Grey) → meant grey_algebra (λ p. knuth_plan) by_threshold j drawing ≡ grey_job rows columns least drawing

-- the size is outside the limits
pub record Barred (rows columns refusal : ℕ) : Type 0 where
  pub number : refusal ≡ 1
  pub outside : within rows columns ≡ false
