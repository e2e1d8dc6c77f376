use Rattle.std.proofs.Common.{ℕ, ◌+◌, get_or, sym, ap, ◌∙◌, add-one}
use Rattle.std.proofs.lemmas.Bool.{cond-true}
use Rattle.diffusion.specs.Sets.{every}
use Rattle.model.specs.Calls.{told}
use Rattle.model.specs.Calls.Answer.{Count}
use Rattle.model.specs.Jobs.{fits}
use Rattle.job.specs.Meaning.{meant, band}
use Rattle.job.specs.Progress.{Progress, swept_below}
use Rattle.job.proofs.AnyDrawing.{sweep_any_drawing, swept_any_drawing}
use Rattle.job.proofs.job.Job.finish.Goals as goal

pub returns : goal.returns
returns g c =
    let job = c.args.self.now in
    let tone = g.Q.Tone.Tone.algebra in
    let plan = g.P.Plan.meaning job.plan in
    let tables = g.Q.Quantiser.tables job.quantiser in
    let drawing = c.args.drawing.now in
    let b = band c.args.codes.now c.args.amounts.now in
    let p = meant tone g.P.Plan.meaning g.Q.Quantiser.tables job drawing in
    let lent : ℕ → g.row.Q-Tone.Denot = λ s. get_or drawing s tone.zero in
    let zeros : ℕ → g.row.Q-Tone.Denot = λ s. tone.zero in
    let n = plan.top + 1 in
    let count_is = swept_any_drawing tone job.size.rows job.size.columns plan tables every zeros lent b n in
    let bands-is = sweep_any_drawing tone job.size.rows job.size.columns plan tables every zeros lent b n in
    ap (λ (s : Progress g.row.Q-Tone.Denot). told (Count s.count) s.bands) c.sweep.ensures
    ∙ (λ i. told (Count (count_is i)) (bands-is i))
    ∙ ap (λ m. told (Count (swept_below p.setting m b).count) (swept_below p.setting m b).bands) (add-one plan.top)
    ∙ sym (cond-true (fits p b) _ _ (sym c.if-not-lengths_match.ensures))
