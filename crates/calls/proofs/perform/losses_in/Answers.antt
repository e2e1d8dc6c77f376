use Rattle.job.specs.Answers.{counted}
use Rattle.job.specs.Meaning.{meant, band}
use Rattle.calls.proofs.Cut.{losses_cut}
use Rattle.calls.proofs.perform.losses_in.Goals as goal

pub returns : goal.returns
returns g c =
    losses_cut (meant g.Q.Tone.Tone.algebra g.P.Plan.meaning g.Q.Quantiser.tables c.args.job.now c.args.drawing.now) (band c.args.codes.now c.args.amounts.now) c.args.at c.args.of c.args.places.now c.args.errors.now
    c.low-low.result c.high-high.result c.low-from.result c.high-to.result (counted c.losses.result) c.losses.new.places c.losses.new.errors
    c.low-low.ensures.value c.high-high.ensures.value c.low-from.ensures.value c.high-to.ensures.value c.losses.ensures
