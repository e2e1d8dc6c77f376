use Rattle.std.proofs.Common.{◌≡◌, ◌<◌, Err, sym, ap, ◌∙◌, rules}
use Rattle.refusal.specs.declared.refusal.Refusal.TheVariants.{OutsideDrawing}
use Rattle.model.specs.Calls.{told}
use Rattle.job.specs.Answers.{coded}
use Rattle.job.specs.Meaning.{meant, band}
use Rattle.job.proofs.Attempts.{fix_outside, test_outside}
use Rattle.job.proofs.job.Job.fix.Goals as goal

pub returns-in_err-square : goal.returns-in_err-square
returns-in_err-square g c =
    let size = c.args.self.now.size in
    let p = meant g.Q.Tone.Tone.algebra g.P.Plan.meaning g.Q.Quantiser.tables c.args.self.now c.args.drawing.now in
    let bands = band c.args.codes.now c.args.amounts.now in
    let outside : c.args.row < size.rows → c.args.column < size.columns → ⊥ = search rules in
    let is : c.from_residual.result ≡ Err OutsideDrawing = search rules in
    ap (λ r. told (coded r) bands) is
    ∙ fix_outside p c.args.row c.args.column bands (sym c.if-not-lengths_match.ensures) (test_outside c.args.row size.rows c.args.column size.columns outside)
