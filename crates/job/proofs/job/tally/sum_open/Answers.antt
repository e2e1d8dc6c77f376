use Rattle.std.proofs.Common.{◌≡◌, Bool, true, false, not, eqb, cond, length, get_or, filter, sym, refl, ap, ◌∙◌, arith, rules, tests}
use Rattle.std.specs.List.{fold, zip}
use Rattle.std.proofs.lemmas.Iterator.{YieldsList-from_slice, YieldsList-from_zip}
use Rattle.std.proofs.lemmas.Iterator.Consumers.{fold_from_yields_List}
use Rattle.std.proofs.lemmas.Slice.Zip.{get_or-zip, length-zip}
use Rattle.tone.specs.Sums.{total}
use Rattle.job.specs.Shown.{open_at}
use Rattle.job.proofs.Folds.{fold_passing, folded}
use Rattle.job.proofs.job.tally.sum_open.Goals as goal

-- the amount where the code is open, told the other way about
turned : {T : Type 0} (b : Bool) (x z : T) → cond (not b) z x ≡ cond b x z
turned true x z = refl
turned false x z = refl

pub returns : goal.returns
returns g c =
    let a = g.T.Tone.algebra in
    let codes = c.args.codes.now in
    let amounts = c.args.amounts.now in
    let pairs = zip amounts codes in
    let long : length pairs ≡ length amounts = omega (arith, length-zip amounts codes) in
    fold_from_yields_List _ (λ s p. cond (eqb p.1 255) (a.sum s p.0) s) _ c.fold.result c.fold.ensures.ran
    (YieldsList-from_zip (YieldsList-from_slice amounts cc) (YieldsList-from_slice codes cc))
    (λ s x b q k. search (rules, tests))
    ∙ fold_passing (λ p. eqb p.1 255) (λ s p. a.sum s p.0) pairs _
    ∙ ap (λ z. fold (λ s p. a.sum s p.0) z (filter (λ p. eqb p.1 255) pairs)) c.zero.ensures
    ∙ folded a g.met.T.Tone.lawful (λ p. eqb p.1 255) (λ p. p.0) (open_at a codes amounts) (a.zero, 255) pairs (λ k low.
    let at = get_or-zip amounts codes k (a.zero, 255) (omega arith) (omega arith) in
    turned (eqb (get_or codes k 255) 255) (get_or amounts k a.zero) a.zero ∙ sym (ap (λ p. cond (eqb p.1 255) p.0 a.zero) at))
    ∙ ap (total a (open_at a codes amounts)) long
