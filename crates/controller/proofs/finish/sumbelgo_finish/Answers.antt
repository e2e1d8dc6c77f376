use Rattle.std.proofs.Common.{ℕ, ap, ◌∙◌, subst, to_z-of_z}
use Rattle.tone.specs.declared.grey.Grey.{Grey}
use Rattle.diffusion.specs.Bands.{Bands}
use Rattle.model.specs.Calls.{Told, told}
use Rattle.model.specs.Calls.Answer.{Refused}
use Rattle.model.specs.Steps.{finish_on}
use Rattle.refusal.specs.Numbers.{number_of}
use Rattle.job.specs.Meaning.{band}
use Rattle.controller.specs.Exports.{grey_job, shown, Made}
use Rattle.controller.proofs.Sized.{made_told, barred_told}
use Rattle.controller.proofs.finish.sumbelgo_finish.Goals as goal

pub returns-in-Ok : goal.returns-in-Ok
returns-in-Ok c =
    let b = band c.args.codes.now c.args.amounts.now in
    let barred : ℕ → Told Grey (Bands Grey) = λ n. told (Refused n) b in
    let made = subst (λ z. Made c.args.rows c.args.columns z c.in-Ok.job) (to_z-of_z c.ranges.least) c.in-Ok.ensures in
    let done = made_told (Told Grey (Bands Grey)) c.args.rows c.args.columns c.args.least c.args.drawing.now (λ p. finish_on p b) (barred 1) c.in-Ok.job made _ c.finish.ensures in
    record { answer = c.from.ensures ∙ ap (λ (t : Told Grey (Bands Grey)). shown t.answer) done; bands = ap (λ (t : Told Grey (Bands Grey)). t.state) done }

pub returns-in-Err : goal.returns-in-Err
returns-in-Err c =
    let b = band c.args.codes.now c.args.amounts.now in
    let barred : ℕ → Told Grey (Bands Grey) = λ n. told (Refused n) b in
    let done = barred_told (Told Grey (Bands Grey)) c.args.rows c.args.columns (number_of c.in-Err.refusal) c.in-Err.ensures (finish_on (grey_job c.args.rows c.args.columns c.args.least c.args.drawing.now) b) barred in
    record { answer = c.from-in-Err.ensures ∙ ap (λ (t : Told Grey (Bands Grey)). shown t.answer) done; bands = ap (λ (t : Told Grey (Bands Grey)). t.state) done }
