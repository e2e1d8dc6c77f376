use Rattle.std.proofs.Common.{ℕ, ap, ◌∙◌, subst, to_z-of_z}
use Rattle.tone.specs.declared.grey.Grey.{Grey}
use Rattle.model.specs.Calls.{Listed, listed}
use Rattle.model.specs.Calls.Answer.{Refused}
use Rattle.model.specs.Steps.{losses_on}
use Rattle.refusal.specs.Numbers.{number_of}
use Rattle.job.specs.Meaning.{band}
use Rattle.controller.specs.Exports.{grey_job, shown, Made}
use Rattle.controller.proofs.Sized.{made_told, barred_told}
use Rattle.controller.proofs.losses.sumbelgo_losses.Goals as goal

pub returns-in-Ok : goal.returns-in-Ok
returns-in-Ok c =
    let b = band c.args.codes.now c.args.amounts.now in
    let barred : ℕ → Listed Grey = λ n. listed (Refused n) c.args.places.now c.args.errors.now in
    let made = subst (λ z. Made c.args.rows c.args.columns z c.in-Ok.job) (to_z-of_z c.ranges.least) c.in-Ok.ensures in
    let done = made_told (Listed Grey) c.args.rows c.args.columns c.args.least c.args.drawing.now (λ p. losses_on p b c.args.places.now c.args.errors.now) (barred 1) c.in-Ok.job made _ c.losses.ensures in
    record { answer = c.from.ensures ∙ ap (λ (t : Listed Grey). shown t.answer) done; places = ap (λ (t : Listed Grey). t.places) done; errors = ap (λ (t : Listed Grey). t.errors) done }

pub returns-in-Err : goal.returns-in-Err
returns-in-Err c =
    let b = band c.args.codes.now c.args.amounts.now in
    let barred : ℕ → Listed Grey = λ n. listed (Refused n) c.args.places.now c.args.errors.now in
    let done = barred_told (Listed Grey) c.args.rows c.args.columns (number_of c.in-Err.refusal) c.in-Err.ensures (losses_on (grey_job c.args.rows c.args.columns c.args.least c.args.drawing.now) b c.args.places.now c.args.errors.now) barred in
    record { answer = c.from-in-Err.ensures ∙ ap (λ (t : Listed Grey). shown t.answer) done; places = ap (λ (t : Listed Grey). t.places) done; errors = ap (λ (t : Listed Grey). t.errors) done }
