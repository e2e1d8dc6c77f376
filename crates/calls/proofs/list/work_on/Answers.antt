use Rattle.std.proofs.Common.{arith}
use Rattle.std.proofs.lemmas.List.{get_or_default}
use Rattle.model.specs.Calls.{pools}
use Rattle.job.specs.Meaning.{meant, band}
use Rattle.calls.proofs.Turns.{turn, turned}
use Rattle.calls.proofs.list.work_on.Goals as goal

pub loop-i-preserved : goal.loop-i-preserved
loop-i-preserved g c =
    turn (meant g.Q.Tone.Tone.algebra g.P.Plan.meaning g.Q.Quantiser.tables c.args.job.now c.args.drawing.now) c.args.calls.now c.args.answers.now _ c.loop-i.i _
    c.loop-i.answers c.perform.result
    (band c.loop-i.codes c.loop-i.amounts) (band c.perform.new.codes c.perform.new.amounts)
    (pools c.loop-i.bytes c.loop-i.places c.loop-i.errors) (pools c.perform.new.bytes c.perform.new.places c.perform.new.errors)
    c.loop-i-test.true (omega arith) (get_or_default c.args.calls.now c.loop-i.i _ _ c.loop-i-test.true) c.perform.ensures c.loop-i.invariant

pub returns : goal.returns
returns g c =
    turned (meant g.Q.Tone.Tone.algebra g.P.Plan.meaning g.Q.Quantiser.tables c.args.job.now c.args.drawing.now) c.args.calls.now c.args.answers.now _ c.loop-i.i c.loop-i.answers _ _
    c.loop-i-test.false (omega arith) c.loop-i.invariant
