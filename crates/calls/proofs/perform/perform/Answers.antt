use Rattle.std.proofs.Common.{◌≡◌, sym, ap, ◌∙◌, rules}
use Rattle.model.specs.Calls.{pools, done, keep_pools}
use Rattle.model.specs.Steps.{step}
use Rattle.job.specs.Answers.{coded}
use Rattle.job.specs.Meaning.{meant, band}
use Rattle.calls.specs.Works.{call_of, answer_of}
use Rattle.calls.proofs.perform.perform.Goals as goal

pub returns-in_err-fix-in-Fix : goal.returns-in_err-fix-in-Fix
returns-in_err-fix-in-Fix g c =
    let p = meant g.Q.Tone.Tone.algebra g.P.Plan.meaning g.Q.Quantiser.tables c.args.job.now c.args.drawing.now in
    let o = pools c.args.bytes.now c.args.places.now c.args.errors.now in
    let is : answer_of c.from_residual.result ≡ coded c.fix.result = search rules in
    ap (λ a. done a (band c.fix.new.codes c.fix.new.amounts) o) is ∙ ap (keep_pools o) c.fix.ensures
    ∙ ap (λ k. step p (call_of k) (band c.args.codes.now c.args.amounts.now) o) (sym c.in-Fix.is)
