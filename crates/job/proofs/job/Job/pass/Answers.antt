use Rattle.std.proofs.Common.{◌≡◌, ◌+◌, ◌*◌, ◌%◌, ◌<◌, sym, ap, ◌∙◌, mod-eq_of_lt, add-mul, one-mul, zero-mul, arith}
use native.Mathlib.Nat.{mod-le}
use Rattle.std.proofs.lemmas.Nat.{mod_below}
use Rattle.job.specs.Meaning.{setting_by, band}
use Rattle.job.specs.Progress.{passed_below}
use Rattle.job.proofs.Lower.{lower-below}
use Rattle.job.proofs.Passes.{below_none, row_more}
use Rattle.job.proofs.Strides.{first_same}
use Rattle.job.proofs.job.Job.pass.Goals as goal

pub loop-row-init : goal.loop-row-init
loop-row-init g c =
    let job = c.args.self.now in
    let j = setting_by g.Q.Tone.Tone.algebra g.P.Plan.meaning g.Q.Quantiser.tables job in
    let b = band c.args.codes.now c.args.amounts.now in (
      omega arith,
      below_none j c.args.rank b ∙ ap (λ n. passed_below j c.args.rank n b) (sym (zero-mul job.size.columns)),
    )

pub pass_row-count-requires : goal.pass_row-count-requires
pass_row-count-requires g c =
    let job = c.args.self.now in
    let plan = g.P.Plan.meaning job.plan in
    let law = g.met.P.Plan.lawful job.plan in
    let row = c.loop-row.row in
    let phase = row % c.row_period-period.result in
    let inv = c.loop-row.invariant in
    let least = law.row_period.least in
    let same : phase ≡ row % plan.row_period = ap (λ q. row % q) c.row_period-period.ensures in
    let below : row % plan.row_period < plan.row_period = mod_below row plan.row_period (omega arith) in
    let short : phase < plan.row_period = omega (arith, same) in
    let j = setting_by g.Q.Tone.Tone.algebra g.P.Plan.meaning g.Q.Quantiser.tables job in
    record {
      row = c.loop-row-test.true;
      first = first_same plan law c.args.rank row job.size.columns phase _ (mod-eq_of_lt short ∙ same) (c.first_columns-firsts.ensures.each phase short (omega (arith, same, mod-le row plan.row_period, c.loop-row-test.true)));
      lower = lower-below j c.args.rank (row * job.size.columns) c.loop-row.count (band c.args.codes.now c.args.amounts.now) (band c.loop-row.codes c.loop-row.amounts) inv.1 c.requires.lower;
      amounts = omega (arith, c.requires.amounts);
      codes = omega (arith, c.requires.codes);
    }

pub loop-row-preserved : goal.loop-row-preserved
loop-row-preserved g c =
    let job = c.args.self.now in
    let columns = job.size.columns in
    let plan = g.P.Plan.meaning job.plan in
    let j = setting_by g.Q.Tone.Tone.algebra g.P.Plan.meaning g.Q.Quantiser.tables job in
    let k = c.loop-row.row in
    let inv = c.loop-row.invariant in
    let next : (k + 1) * columns ≡ k * columns + columns = add-mul k 1 columns ∙ ap (λ n. k * columns + n) (one-mul columns) in (
      omega (arith, next, inv.0, c.pass_row-count.ensures.few),
      row_more j c.args.rank k columns c.loop-row.count c.pass_row-count.result (band c.args.codes.now c.args.amounts.now) (band c.loop-row.codes c.loop-row.amounts)
          (band c.pass_row-count.new.codes c.pass_row-count.new.amounts) inv.1 c.pass_row-count.ensures.after,
    )
