use Rattle.std.proofs.Common.{◌≡◌, ℕ, ◌+◌, ap, ◌∙◌, arith}
use Rattle.diffusion.proofs.Lines.{lawful_drawing}
use Rattle.job.specs.Meaning.{setting_by, band}
use Rattle.job.specs.Progress.{swept_below}
use Rattle.job.proofs.Lower.{lower-swept}
use Rattle.job.proofs.Passes.{swept_none, rank_more}
use Rattle.job.proofs.job.Job.sweep.Goals as goal

pub loop-rank-init : goal.loop-rank-init
loop-rank-init g c =
    let j = setting_by g.Q.Tone.Tone.algebra g.P.Plan.meaning g.Q.Quantiser.tables c.args.self.now in
    (omega arith, swept_none j (band c.args.codes.now c.args.amounts.now))

pub loop-rank-preserved : goal.loop-rank-preserved
loop-rank-preserved g c =
    let j = setting_by g.Q.Tone.Tone.algebra g.P.Plan.meaning g.Q.Quantiser.tables c.args.self.now in (
      omega (arith, c.loop-rank.invariant.0, c.pass-count.ensures.few),
      rank_more j c.loop-rank.rank c.loop-rank.count c.pass-count.result (band c.args.codes.now c.args.amounts.now) (band c.loop-rank.codes c.loop-rank.amounts)
          (band c.pass-count.new.codes c.pass-count.new.amounts) c.loop-rank.invariant.1 c.pass-count.ensures.after,
    )

-- the exit behind the last turn, where the rank is the top
pub returns-2 : goal.returns-2
returns-2 g c =
    let j = setting_by g.Q.Tone.Tone.algebra g.P.Plan.meaning g.Q.Quantiser.tables c.args.self.now in
    let start = band c.args.codes.now c.args.amounts.now in
    let last : c.loop-rank.rank + 1 ≡ (g.P.Plan.meaning c.args.self.now.plan).top + 1 = omega (arith, c.top-rank-end.ensures) in
    rank_more j c.loop-rank.rank c.loop-rank.count c.pass-count.result start (band c.loop-rank.codes c.loop-rank.amounts)
    (band c.pass-count.new.codes c.pass-count.new.amounts) c.loop-rank.invariant.1 c.pass-count.ensures.after
    ∙ ap (λ n. swept_below j n start) last

pub pass-count-requires : goal.pass-count-requires
pass-count-requires g c =
    let job = c.args.self.now in
    let tone = g.Q.Tone.Tone.algebra in
    let zeros : ℕ → g.row.Q-Tone.Denot = λ s. tone.zero in
    let j = setting_by tone g.P.Plan.meaning g.Q.Quantiser.tables job in
    let law = lawful_drawing tone g.met.Q.Tone.Tone.lawful (g.P.Plan.meaning job.plan) (g.met.P.Plan.lawful job.plan) (g.Q.Quantiser.tables job.quantiser) (g.met.Q.Quantiser.sound job.quantiser) in
    record {
      lower = lower-swept j (law.lawful job.size.rows job.size.columns zeros) c.loop-rank.rank c.loop-rank.count (band c.args.codes.now c.args.amounts.now) (band c.loop-rank.codes c.loop-rank.amounts) c.requires.codes c.loop-rank.invariant.1;
      amounts = omega (arith, c.requires.amounts);
      codes = omega (arith, c.requires.codes);
    }
