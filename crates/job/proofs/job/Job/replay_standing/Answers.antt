use Rattle.std.proofs.Common.{◌<◌, length, arith}
use Rattle.job.specs.Meaning.{setting_by}
use Rattle.job.proofs.Reading.{place-below}
use Rattle.job.proofs.Working.{worked_right, worked_wrong}
use Rattle.job.proofs.job.Job.replay_standing.Goals as goal

pub returns-then-quantise-written-clause-kept : goal.returns-then-quantise-written-clause-kept
returns-then-quantise-written-clause-kept g c =
    let j = c.args.self.now in
    let s = c.args.square.place in
    let inside : s < length c.args.codes.now = omega (arith, place-below j.size c.args.square c.requires.square) in
    worked_wrong (setting_by g.Q.Tone.Tone.algebra g.P.Plan.meaning g.Q.Quantiser.tables j) c.args.codes.now 0 s c.args.amounts.now inside
    c.quantise.result c.quantise.ensures.code c.if-quantise-written.true

pub returns-clause-kept : goal.returns-clause-kept
returns-clause-kept g c =
    let j = c.args.self.now in
    let s = c.args.square.place in
    let inside : s < length c.args.codes.now = omega (arith, place-below j.size c.args.square c.requires.square) in
    worked_right (setting_by g.Q.Tone.Tone.algebra g.P.Plan.meaning g.Q.Quantiser.tables j) c.args.codes.now 0 s c.args.amounts.now inside
    c.quantise.result c.quantise.ensures.code _ c.if-quantise-written.false c.quantise.ensures.after
