use Rattle.std.proofs.Common.{◌≡◌, is_ok, replicate, sym, ap, ◌∙◌, rules}
use Rattle.std.proofs.lemmas.Result.{err_from_is_err_and}
use Rattle.refusal.specs.declared.refusal.Refusal.TheVariants.{WrongCode}
use Rattle.job.specs.Meaning.{band}
use Rattle.job.proofs.Resuming.{refused_form, refused_map, accepted, refused_code}
use Rattle.job.proofs.job.Job.resume.Goals as goal

pub returns-in_err-record : goal.returns-in_err-record
returns-in_err-record g c =
    let j = c.args.self.now in
    let e = err_from_is_err_and c.from_residual.result c.from_residual.ensures.1 in
    rw (e.1, e.2, c.in_err-record.ensures.0)
    (refused_form g.Q.Tone.Tone.algebra j.size.rows j.size.columns (g.P.Plan.meaning j.plan) (g.Q.Quantiser.tables j.quantiser) c.args.drawing.now c.args.saved.now (band c.args.codes.now c.args.amounts.now)
    (sym c.if-not-lengths_match.ensures) c.in_err-record.ensures.1)

pub returns-then-not-is_closed : goal.returns-then-not-is_closed
returns-then-not-is_closed g c =
    let j = c.args.self.now in
    let bytes = c.in_ok-record.ensures.0 in
    let size = c.in_ok-record.ensures.1 in
    refused_map g.Q.Tone.Tone.algebra j.size.rows j.size.columns (g.P.Plan.meaning j.plan) (g.Q.Quantiser.tables j.quantiser) c.args.drawing.now c.args.saved.now (band c.args.codes.now c.args.amounts.now)
    (sym c.if-not-lengths_match.ensures) (rw (bytes, size) at c.in_ok-record.record.well_formed) (rw bytes at (sym c.if-not-is_closed.ensures))

pub returns-in-Err : goal.returns-in-Err
returns-in-Err g c =
    let j = c.args.self.now in
    let bytes = c.in_ok-record.ensures.0 in
    let size = c.in_ok-record.ensures.1 in
    let why : c.in-Err.refusal ≡ WrongCode = search (rules, c.rework.ensures.reason, c.in-Err.is) in
    rw why
    (refused_code g.Q.Tone.Tone.algebra j.size.rows j.size.columns (g.P.Plan.meaning j.plan) (g.Q.Quantiser.tables j.quantiser) c.args.drawing.now c.args.saved.now (band c.args.codes.now c.args.amounts.now)
    g.met.Q.Tone.Tone.lawful (g.met.P.Plan.lawful j.plan) (g.met.Q.Quantiser.sound j.quantiser)
    (sym c.if-not-lengths_match.ensures) (rw (bytes, size) at c.in_ok-record.record.well_formed) (rw bytes at (sym c.if-not-is_closed.ensures))
    _ _ c.rework.result (ap is_ok c.in-Err.is) (rw bytes at c.rework.ensures)
    c.fill.new.self c.copy_from_slice.new.self (c.fill.ensures.after (λ y e. e) ∙ ap (λ n. replicate n 255) c.rework.auto.codes) c.copy_from_slice.ensures.after)

pub returns : goal.returns
returns g c =
    let j = c.args.self.now in
    let bytes = c.in_ok-record.ensures.0 in
    let size = c.in_ok-record.ensures.1 in
    accepted g.Q.Tone.Tone.algebra j.size.rows j.size.columns (g.P.Plan.meaning j.plan) (g.Q.Quantiser.tables j.quantiser) c.args.drawing.now c.args.saved.now (band c.args.codes.now c.args.amounts.now)
    g.met.Q.Tone.Tone.lawful (g.met.P.Plan.lawful j.plan) (g.met.Q.Quantiser.sound j.quantiser)
    (sym c.if-not-lengths_match.ensures) (rw (bytes, size) at c.in_ok-record.record.well_formed) (rw bytes at (sym c.if-not-is_closed.ensures))
    _ _ c.rework.result (ap is_ok c.in_default.is) (rw bytes at c.rework.ensures)
