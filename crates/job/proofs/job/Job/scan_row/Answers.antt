use Rattle.std.proofs.Common.{◌+◌, ◌*◌, sym, ap, ◌∙◌, arith}
use Rattle.diffusion.proofs.Lines.{lays_out}
use Rattle.job.specs.Meaning.{setting_by, band}
use Rattle.job.specs.Progress.{progress, visited}
use Rattle.job.proofs.Lower.{at_rank, lower_from}
use Rattle.job.proofs.Passes.{from_none, from_more, from_other}
use Rattle.job.proofs.job.Job.scan_row.Goals as goal
use Rattle.job.proofs.job.Job.scan_row.Goals.{then-rank, else-rank}

pub loop-column-init : goal.loop-column-init
loop-column-init g c =
    let j = setting_by g.Q.Tone.Tone.algebra g.P.Plan.meaning g.Q.Quantiser.tables c.args.self.now in
    (omega arith, sym (from_none j c.args.rank (c.args.row * c.args.self.now.size.columns) (band c.args.codes.now c.args.amounts.now)))

pub visit-count-requires : goal.visit-count-requires
visit-count-requires g c =
    let job = c.args.self.now in
    let size = job.size in
    let plan = g.P.Plan.meaning job.plan in
    let j = setting_by g.Q.Tone.Tone.algebra g.P.Plan.meaning g.Q.Quantiser.tables job in
    let k = c.loop-column.column in
    let a = c.args.row * size.columns in
    let is = (lays_out size.rows size.columns plan (g.met.P.Plan.lawful job.plan)).rank c.args.row k c.loop-column-test.true in
    record {
      lower = at_rank j.squares c.loop-column.codes (j.squares.rank (a + k)) c.args.rank (is ∙ sym c.rank.ensures ∙ c.if-rank.true)
          (lower_from j c.args.rank a k c.loop-column.count (band c.args.codes.now c.args.amounts.now) (band c.loop-column.codes c.loop-column.amounts) c.loop-column.invariant.1 c.requires.lower);
      amounts = omega (arith, c.requires.amounts);
      codes = omega (arith, c.requires.codes);
      pattern = c.pattern-pattern.ensures;
    }

pub loop-column-preserved : goal.loop-column-preserved
loop-column-preserved g c =
    let job = c.args.self.now in
    let columns = job.size.columns in
    let plan = g.P.Plan.meaning job.plan in
    let j = setting_by g.Q.Tone.Tone.algebra g.P.Plan.meaning g.Q.Quantiser.tables job in
    let k = c.loop-column.column in
    let a = c.args.row * columns in
    let start = band c.args.codes.now c.args.amounts.now in
    let before = band c.loop-column.codes c.loop-column.amounts in
    let is = (lays_out job.size.rows columns plan (g.met.P.Plan.lawful job.plan)).rank c.args.row k c.loop-column-test.true in
    elim c.if-rank.branch [
      | then-rank w ↦ (
        omega (arith, c.loop-column.invariant.0, w.visit-count.ensures.few, w.count-is),
        (λ i. progress (w.count-is i) (band (w.codes-is i) (w.amounts-is i)))
            ∙ from_more j c.args.rank a k c.loop-column.count w.visit-count.result start before (band w.visit-count.new.codes w.visit-count.new.amounts) c.loop-column.invariant.1
            (w.visit-count.ensures.after ∙ ap (λ r. visited j r (a + k) before) (is ∙ sym c.rank.ensures ∙ w.if-rank.true)),
      )
      | else-rank w ↦ (
        omega (arith, c.loop-column.invariant.0, w.count-is),
        (λ i. progress (w.count-is i) (band (w.codes-is i) (w.amounts-is i)))
            ∙ from_other j c.args.rank a k c.loop-column.count start before c.loop-column.invariant.1 (λ e. w.if-rank.false (c.rank.ensures ∙ sym is ∙ e)),
      )
    ]
