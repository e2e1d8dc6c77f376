use Rattle.std.proofs.Common.{◌≡◌, leb, map, length, sym, ap, ◌∙◌, arith, rules}
use Rattle.std.proofs.lemmas.Bool.{le-leb, cond-true}
use Rattle.model.specs.Calls.{pools}
use Rattle.model.specs.Jobs.{job_of}
use Rattle.model.specs.Runs.{run}
use Rattle.model.specs.Steps.{step}
use Rattle.model.proofs.Opened.{lawful_job, opened_on_is}
use Rattle.job.specs.Answers.{refused}
use Rattle.job.specs.Meaning.{meant, band}
use Rattle.calls.specs.Works.{call_of, filled}
use Rattle.calls.proofs.Promised.{opened_lengths, promised}
use Rattle.calls.proofs.list.work.Goals as goal

pub returns-in_err-size-clause-number : goal.returns-in_err-size-clause-number
returns-in_err-size-clause-number g c =
    let long = length c.args.calls.now in
    let room = length c.args.answers.now in
    let is : refused c.from_residual.result ≡ refused c.open_bands.result = search rules in
    is ∙ c.open_bands.ensures.number ∙ sym (cond-true (leb long room) _ 6 (le-leb _ _ (omega arith)))

pub returns-clause-kept : goal.returns-clause-kept
returns-clause-kept g c =
    let tone = g.Q.Tone.Tone.algebra in
    let ranks = g.P.Plan.meaning in
    let tables = g.Q.Quantiser.tables in
    let rows = c.args.rows in
    let columns = c.args.columns in
    let drawing = c.args.drawing.now in
    let calls = c.args.calls.now in
    let before = band c.args.codes.now c.args.amounts.now in
    let start = band c.open_bands.new.codes c.open_bands.new.amounts in
    let o = pools c.args.bytes.now c.args.places.now c.args.errors.now in
    let p = job_of tone rows columns (ranks c.args.plan) (tables c.args.quantiser) drawing in
    let told = c.in_ok-size.ensures.size in
    let none = sym c.in_ok-size.ensures.number in
    let long = opened_lengths rows columns (length drawing) (length c.args.amounts.now) (length c.args.codes.now) none in
    let made = c.new-job.ensures in
    let rows_is = ap (λ s. s.rows) made.size ∙ told.0 in
    let columns-is = ap (λ s. s.columns) made.size ∙ told.1 in
    let plan-is = made.plan in
    let quantiser-is = made.quantiser in
    let same : meant tone ranks tables c.new-job.result drawing ≡ p
    = λ i. job_of tone (rows_is i) (columns-is i) (ranks (plan-is i)) (tables (quantiser-is i)) drawing in
    let law = lawful_job tone rows columns (ranks c.args.plan) (tables c.args.quantiser) drawing g.met.Q.Tone.Tone.lawful (g.met.P.Plan.lawful c.args.plan) (g.met.Q.Quantiser.sound c.args.quantiser) long.drawing in
    let start_is = c.in_ok-size.ensures.bands ∙ opened_on_is tone rows columns (ranks c.args.plan) (tables c.args.quantiser) drawing before long.drawing long.codes in
    promised p law calls c.args.answers.now c.work_on.new.answers o (pools c.work_on.new.bytes c.work_on.new.places c.work_on.new.errors)
    (band c.work_on.new.codes c.work_on.new.amounts) start start_is
    (c.work_on.ensures ∙ ap (λ q. filled (run (step q) (map call_of calls) start o) c.args.answers.now) same)
