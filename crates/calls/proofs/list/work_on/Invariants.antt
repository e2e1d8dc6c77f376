use Rattle.std.proofs.Common.{map}
use Rattle.model.specs.Calls.{pools}
use Rattle.model.specs.Runs.{run}
use Rattle.model.specs.Steps.{step}
use Rattle.job.specs.Meaning.{meant, band}
use Rattle.calls.specs.Works.{call_of}
use Rattle.calls.proofs.Turns.{Turn}
use Rattle.calls.proofs.list.work_on.Given as goal

abbrev pub invariant-loop-i : goal.invariant-loop-i
invariant-loop-i g l =
    let p = meant g.Q.Tone.Tone.algebra g.P.Plan.meaning g.Q.Quantiser.tables l.job l.drawing in
    Turn p l.calls l.initial.answers
    (run (step p) (map call_of l.calls) (band l.initial.codes l.initial.amounts) (pools l.initial.bytes l.initial.places l.initial.errors))
    l.i l.answers (band l.codes l.amounts) (pools l.bytes l.places l.errors)
