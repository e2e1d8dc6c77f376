use Rattle.std.proofs.Common.{◌≡◌, ◌*◌, ◌≤◌, Err, ap, ◌∙◌, rules}
use Rattle.refusal.specs.declared.refusal.Refusal.TheVariants.{OutsideDrawing}
use Rattle.model.specs.Calls.{told}
use Rattle.diffusion.specs.Bands.{standing}
use Rattle.job.specs.Answers.{coded}
use Rattle.job.specs.Meaning.{setting_by, band}
use Rattle.job.proofs.Attempts.{attempt_refused}
use Rattle.job.proofs.Refusing.{refused_outside}
use Rattle.job.proofs.job.Job.fix_place.Goals as goal

pub returns-in_err-square : goal.returns-in_err-square
returns-in_err-square g c =
    let j = setting_by g.Q.Tone.Tone.algebra g.P.Plan.meaning g.Q.Quantiser.tables c.args.self.now in
    let bands = band c.args.codes.now c.args.amounts.now in
    let out : c.args.self.now.size.rows * c.args.self.now.size.columns ≤ c.args.place = search rules in
    let is : c.from_residual.result ≡ Err OutsideDrawing = search rules in
    ap (λ r. told (coded r) bands) is ∙ attempt_refused j c.args.place bands 2 (refused_outside j.squares (standing c.args.codes.now) c.args.place out)
