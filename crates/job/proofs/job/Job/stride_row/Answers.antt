use Rattle.std.proofs.Common.{◌≡◌, ℕ, ◌+◌, ◌*◌, ◌%◌, ◌<◌, ◌≤◌, sym, refl, ap, ◌∙◌, mod-eq_of_lt, arith}
use native.Mathlib.Nat.{add-mod_right}
use Rattle.diffusion.proofs.Lines.{lays_out}
use Rattle.job.specs.Meaning.{squares_of, setting_by, band}
use Rattle.job.specs.Patterns.{PatternOf}
use Rattle.job.proofs.Lower.{at_rank, lower_from}
use Rattle.job.proofs.Strides.{same_rank, same_pattern, same_place, stride_none, stride_more}
use Rattle.job.proofs.job.Job.stride_row.Goals as goal
use Rattle.job.proofs.job.Job.stride_row.Goals.{then-not-is_between, else-not-is_between}

pub loop-column-init : goal.loop-column-init
loop-column-init g c =
    let job = c.args.self.now in
    let tone = g.Q.Tone.Tone.algebra in
    let zeros : ℕ → g.row.Q-Tone.Denot = λ s. tone.zero in
    let own = mod-eq_of_lt c.requires.lone.within in (
      omega arith,
      own,
      own,
      c.pattern-pattern.ensures,
      omega arith,
      omega arith,
      omega (arith, c.requires.first),
      stride_none tone job.size.rows job.size.columns (g.P.Plan.meaning job.plan) (g.met.P.Plan.lawful job.plan) (g.Q.Quantiser.tables job.quantiser) zeros
          c.args.rank c.args.row (band c.args.codes.now c.args.amounts.now) c.args.first c.requires.lone,
    )

pub visit-count-requires : goal.visit-count-requires
visit-count-requires g c =
    let job = c.args.self.now in
    let rows = job.size.rows in
    let columns = job.size.columns in
    let squares = squares_of g.P.Plan.meaning job in
    let inv = c.loop-column.invariant in
    let k = c.loop-column.column in
    let a = c.args.row * columns in
    let s = a + k in
    let plan = g.P.Plan.meaning job.plan in
    let law = g.met.P.Plan.lawful job.plan in
    let j = setting_by g.Q.Tone.Tone.algebra g.P.Plan.meaning g.Q.Quantiser.tables job in
    let within : k < columns = c.loop-column-test.true in
    let least = law.column_period.least in
    let own = (lays_out rows columns plan law).rank c.args.row k within
    ∙ same_rank plan law c.args.row k c.args.first (inv.2 ∙ sym (mod-eq_of_lt c.requires.lone.within)) ∙ c.requires.lone.has in
    let so_far = inv.7 k (omega arith) (omega (arith, least)) (omega (arith, within)) in
    record {
      lower = at_rank squares c.loop-column.codes (squares.rank s) c.args.rank own
          (lower_from j c.args.rank a k c.loop-column.count (band c.args.codes.now c.args.amounts.now) (band c.loop-column.codes c.loop-column.amounts) so_far c.requires.lower);
      amounts = omega (arith, c.requires.amounts);
      codes = omega (arith, c.requires.codes);
      pattern = elim c.if-not-is_between.branch [
        | then-not-is_between w ↦ same_place squares s s w.pattern-pattern-then-not-is_between.result c.if-not-is_between.pattern refl w.pattern-is w.pattern-pattern-then-not-is_between.ensures
        | else-not-is_between w ↦ same_place squares s s c.loop-column.pattern c.if-not-is_between.pattern refl w.pattern-is
            (same_pattern rows columns (g.P.Plan.meaning job.plan) (g.met.P.Plan.lawful job.plan) c.args.row c.loop-column.known k c.requires.row (w.if-not-is_between.ensures refl)
            inv.0 (inv.2 ∙ sym inv.1) c.loop-column.pattern inv.3)
      ];
    }

pub loop-column-preserved : goal.loop-column-preserved
loop-column-preserved g c =
    let job = c.args.self.now in
    let rows = job.size.rows in
    let columns = job.size.columns in
    let plan = g.P.Plan.meaning job.plan in
    let law = g.met.P.Plan.lawful job.plan in
    let q = plan.column_period in
    let tone = g.Q.Tone.Tone.algebra in
    let zeros : ℕ → g.row.Q-Tone.Denot = λ s. tone.zero in
    let squares = squares_of g.P.Plan.meaning job in
    let inv = c.loop-column.invariant in
    let k = c.loop-column.column in
    let a = c.args.row * columns in
    let known = c.if-not-is_between.known in
    let pattern = c.if-not-is_between.pattern in
    let step = c.column_period-column-step.ensures in
    let least = law.column_period.least in
    let few = c.visit-count.ensures.few in
    let held : (known ≤ k) × (known % q ≡ c.args.first) × PatternOf squares (a + known) pattern
    = elim c.if-not-is_between.branch [
      | then-not-is_between w ↦ (
        omega (arith, w.known-is),
        ap (λ n. n % q) w.known-is ∙ inv.2,
        same_place squares (a + k) (a + known) w.pattern-pattern-then-not-is_between.result pattern (ap (λ n. a + n) w.known-is) w.pattern-is w.pattern-pattern-then-not-is_between.ensures,
      )
      | else-not-is_between w ↦ (
        omega (arith, w.known-is, inv.0),
        ap (λ n. n % q) w.known-is ∙ inv.1,
        same_place squares (a + c.loop-column.known) (a + known) c.loop-column.pattern pattern (ap (λ n. a + n) w.known-is) w.pattern-is inv.3,
      )
    ] in
    let more = stride_more tone rows columns plan law (g.Q.Quantiser.tables job.quantiser) zeros c.args.rank c.args.row (band c.args.codes.now c.args.amounts.now) c.args.first c.requires.lone
    k c.loop-column.count c.visit-count.result (band c.loop-column.codes c.loop-column.amounts) (band c.visit-count.new.codes c.visit-count.new.amounts)
    c.loop-column-test.true inv.2 inv.7 c.visit-count.ensures.after in (
      omega (arith, held.0),
      held.1,
      ap (λ n. (k + n) % q) step ∙ add-mod_right k q ∙ inv.2,
      held.2,
      omega (arith, inv.4, step, least, few),
      omega (arith, inv.4, c.loop-column-test.true, few),
      omega (arith, c.loop-column-test.true, step),
      λ n low high short. more n (omega (arith, low, step)) (omega (arith, high, step)) short,
    )

pub returns-after-not-is_between-clause-after : goal.returns-after-not-is_between-clause-after
returns-after-not-is_between-clause-after g c =
    let job = c.args.self.now in
    let columns = job.size.columns in
    let plan = g.P.Plan.meaning job.plan in
    let law = g.met.P.Plan.lawful job.plan in
    let tone = g.Q.Tone.Tone.algebra in
    let zeros : ℕ → g.row.Q-Tone.Denot = λ s. tone.zero in
    let inv = c.loop-column.invariant in
    let k = c.loop-column.column in
    let step = c.column_period-column-step.ensures in
    let more = stride_more tone job.size.rows columns plan law (g.Q.Quantiser.tables job.quantiser) zeros c.args.rank c.args.row (band c.args.codes.now c.args.amounts.now) c.args.first c.requires.lone
    k c.loop-column.count c.visit-count.result (band c.loop-column.codes c.loop-column.amounts) (band c.visit-count.new.codes c.visit-count.new.amounts)
    c.loop-column-test.true inv.2 inv.7 c.visit-count.ensures.after in
    more columns (omega (arith, step)) (omega (arith, step, c.loop-column-test.true)) (omega arith)
