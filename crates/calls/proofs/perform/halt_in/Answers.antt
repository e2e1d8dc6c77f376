use Rattle.job.specs.Answers.{counted}
use Rattle.job.specs.Meaning.{meant, band}
use Rattle.calls.proofs.Cut.{halt_cut}
use Rattle.calls.proofs.perform.halt_in.Goals as goal

pub returns : goal.returns
returns g c =
    halt_cut (meant g.Q.Tone.Tone.algebra g.P.Plan.meaning g.Q.Quantiser.tables c.args.job.now c.args.drawing.now) (band c.args.codes.now c.args.amounts.now) c.args.window c.args.bytes.now
    c.low-low.result c.high-high.result (counted c.halt.result) c.halt.new.out c.low-low.ensures.value c.high-high.ensures.value c.halt.ensures
