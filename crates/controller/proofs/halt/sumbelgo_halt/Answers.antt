use Rattle.std.proofs.Common.{ℕ, ap, ◌∙◌, subst, to_z-of_z}
use Rattle.tone.specs.declared.grey.Grey.{Grey}
use Rattle.model.specs.Calls.{Wrote, wrote}
use Rattle.model.specs.Calls.Answer.{Refused}
use Rattle.model.specs.Steps.{halt_on}
use Rattle.refusal.specs.Numbers.{number_of}
use Rattle.job.specs.Meaning.{band}
use Rattle.controller.specs.Exports.{grey_job, shown, Made}
use Rattle.controller.proofs.Sized.{made_told, barred_told}
use Rattle.controller.proofs.halt.sumbelgo_halt.Goals as goal

pub returns-in-Ok : goal.returns-in-Ok
returns-in-Ok c =
    let b = band c.args.codes.now c.args.amounts.now in
    let barred : ℕ → Wrote Grey = λ n. wrote (Refused n) c.args.out.now in
    let made = subst (λ z. Made c.args.rows c.args.columns z c.in-Ok.job) (to_z-of_z c.ranges.least) c.in-Ok.ensures in
    let done = made_told (Wrote Grey) c.args.rows c.args.columns c.args.least c.args.drawing.now (λ p. halt_on p b c.args.out.now) (barred 1) c.in-Ok.job made _ c.halt.ensures in
    record { answer = c.from.ensures ∙ ap (λ (t : Wrote Grey). shown t.answer) done; out = ap (λ (t : Wrote Grey). t.out) done }

pub returns-in-Err : goal.returns-in-Err
returns-in-Err c =
    let b = band c.args.codes.now c.args.amounts.now in
    let barred : ℕ → Wrote Grey = λ n. wrote (Refused n) c.args.out.now in
    let done = barred_told (Wrote Grey) c.args.rows c.args.columns (number_of c.in-Err.refusal) c.in-Err.ensures (halt_on (grey_job c.args.rows c.args.columns c.args.least c.args.drawing.now) b c.args.out.now) barred in
    record { answer = c.from-in-Err.ensures ∙ ap (λ (t : Wrote Grey). shown t.answer) done; out = ap (λ (t : Wrote Grey). t.out) done }
