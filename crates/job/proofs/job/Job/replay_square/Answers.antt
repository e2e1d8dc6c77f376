use Rattle.std.proofs.Common.{◌<◌, length, sym, ◌∙◌, arith}
use Rattle.job.specs.Meaning.{setting_by}
use Rattle.job.proofs.Reading.{place-below, square-rank}
use Rattle.job.proofs.Working.{visit_other, visit_worked}
use Rattle.job.proofs.job.Job.replay_square.Goals as goal

pub returns-then-rank-clause-kept : goal.returns-then-rank-clause-kept
returns-then-rank-clause-kept g c =
    let j = c.args.self.now in
    let rank = square-rank j.size (g.P.Plan.meaning j.plan) (g.met.P.Plan.lawful j.plan) c.args.square c.requires.square in
    visit_other (setting_by g.Q.Tone.Tone.algebra g.P.Plan.meaning g.Q.Quantiser.tables j) c.args.codes.now c.args.rank c.args.square.place c.args.amounts.now
    (λ e. c.if-rank.true (c.rank.ensures ∙ sym rank ∙ e))

pub returns-clause-kept : goal.returns-clause-kept
returns-clause-kept g c =
    let j = c.args.self.now in
    let s = c.args.square.place in
    let inside : s < length c.args.codes.now = omega (arith, place-below j.size c.args.square c.requires.square) in
    let rank = square-rank j.size (g.P.Plan.meaning j.plan) (g.met.P.Plan.lawful j.plan) c.args.square c.requires.square in
    visit_worked (setting_by g.Q.Tone.Tone.algebra g.P.Plan.meaning g.Q.Quantiser.tables j) c.args.codes.now c.args.rank s c.args.amounts.now _
    (rank ∙ sym c.rank.ensures ∙ c.if-rank.false) inside c.if-codes-square.false c.replay_standing.ensures.kept
