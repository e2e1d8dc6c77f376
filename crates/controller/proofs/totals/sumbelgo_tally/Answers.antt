use Rattle.std.proofs.Common.{ℕ, ap, ◌∙◌, subst, to_z-of_z}
use Rattle.tone.specs.declared.grey.Grey.{Grey}
use Rattle.model.specs.Calls.{Answer}
use Rattle.model.specs.Calls.Answer.{Refused}
use Rattle.model.specs.Steps.{tally_on}
use Rattle.refusal.specs.Numbers.{number_of}
use Rattle.job.specs.Meaning.{band}
use Rattle.controller.specs.Exports.{grey_job, tallied, Made}
use Rattle.controller.proofs.Sized.{made_told, barred_told}
use Rattle.controller.proofs.totals.sumbelgo_tally.Goals as goal

pub returns-in-Ok : goal.returns-in-Ok
returns-in-Ok c =
    let b = band c.args.codes.now c.args.amounts.now in
    let barred : ℕ → Answer Grey = λ n. Refused n in
    let made = subst (λ z. Made c.args.rows c.args.columns z c.in-Ok.job) (to_z-of_z c.ranges.least) c.in-Ok.ensures in
    let done = made_told (Answer Grey) c.args.rows c.args.columns c.args.least c.args.drawing.now (λ p. tally_on p b) (barred 1) c.in-Ok.job made _ c.tally.ensures in
    c.from.ensures ∙ ap tallied done

pub returns-in-Err : goal.returns-in-Err
returns-in-Err c =
    let b = band c.args.codes.now c.args.amounts.now in
    let barred : ℕ → Answer Grey = λ n. Refused n in
    let done = barred_told (Answer Grey) c.args.rows c.args.columns (number_of c.in-Err.refusal) c.in-Err.ensures (tally_on (grey_job c.args.rows c.args.columns c.args.least c.args.drawing.now) b) barred in
    c.from-in-Err.ensures ∙ ap tallied done
