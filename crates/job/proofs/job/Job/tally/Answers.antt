use Rattle.std.proofs.Common.{◌≡◌, true, sym, ap, ◌∙◌}
use Rattle.std.proofs.lemmas.Bool.{cond-true}
use Rattle.tone.specs.Sums.{total}
use Rattle.model.specs.Jobs.{fits}
use Rattle.job.specs.Meaning.{meant, band}
use Rattle.job.specs.Shown.{output_at, open_at}
use Rattle.job.proofs.Fitting.{fitting}
use Rattle.job.proofs.Terms.{sum_of_all, same_totals}
use Rattle.job.proofs.job.Job.tally.Goals as goal

pub returns : goal.returns
returns g c =
    let a = g.Q.Tone.Tone.algebra in
    let t = g.Q.Quantiser.tables c.args.self.now.quantiser in
    let drawing = c.args.drawing.now in
    let amounts = c.args.amounts.now in
    let codes = c.args.codes.now in
    let p = meant a g.P.Plan.meaning g.Q.Quantiser.tables c.args.self.now drawing in
    let b = band codes amounts in
    let is : fits p b ≡ true = sym c.lengths_match.ensures ∙ c.if-not-lengths_match.false in
    let f = fitting p b is in
    same_totals
    (c.total.ensures ∙ sum_of_all a drawing _ f.drawing)
    (c.sum_outputs.ensures ∙ ap (total a (output_at a t codes)) f.codes)
    c.sum_losses.ensures
    (c.sum_open.ensures ∙ ap (total a (open_at a codes amounts)) f.amounts)
    ∙ sym (cond-true (fits p b) _ _ is)
