use Rattle.std.proofs.Common.{cond, filter, refl, ap, ◌∙◌, rules, tests}
use Rattle.std.specs.List.{fold}
use Rattle.std.proofs.lemmas.Iterator.{YieldsList-from_slice}
use Rattle.std.proofs.lemmas.Iterator.Consumers.{fold_from_yields_List}
use Rattle.bits.specs.Bits.{fixed}
use Rattle.job.specs.Shown.{output_at}
use Rattle.job.proofs.Folds.{fold_passing, folded}
use Rattle.job.proofs.job.Job.sum_outputs.Goals as goal

pub returns : goal.returns
returns g c =
    let a = g.Q.Tone.Tone.algebra in
    let t = g.Q.Quantiser.tables c.args.self.now.quantiser in
    let codes = c.args.codes.now in
    fold_from_yields_List _ (λ s code. cond (fixed code) (a.sum s (t.output code)) s) _ c.fold.result c.fold.ensures.ran
    (YieldsList-from_slice codes cc)
    (λ s x b q k. search (rules, tests))
    ∙ fold_passing fixed (λ s code. a.sum s (t.output code)) codes _
    ∙ ap (λ z. fold (λ s code. a.sum s (t.output code)) z (filter fixed codes)) c.zero.ensures
    ∙ folded a g.met.Q.Tone.Tone.lawful fixed t.output (output_at a t codes) 255 codes (λ k low. refl)
