use Rattle.std.proofs.Common.{◌≡◌, suc, ◌+◌, length, get_or, sym, ◌∙◌, subst, arith}
use Rattle.model.specs.Calls.{told}
use Rattle.model.specs.Calls.Answer.{Followed}
use Rattle.model.proofs.OneMore.{FollowedTo, follow_begun, follow_next, follow_refused, follow_ended}
use Rattle.refusal.specs.Numbers.{number_of}
use Rattle.job.specs.Meaning.{meant, band}
use Rattle.job.proofs.Attempts.{attempt_accepted, attempt_declined, follow-told}
use Rattle.job.proofs.Fitting.{fitting}
use Rattle.job.proofs.job.Job.follow.Goals as goal

pub loop-count-init : goal.loop-count-init
loop-count-init g c =
    let p = meant g.Q.Tone.Tone.algebra g.P.Plan.meaning g.Q.Quantiser.tables c.args.self.now c.args.drawing.now in
    follow_begun p.setting (band c.args.codes.now c.args.amounts.now) c.args.places.now

pub fix_place-requires : goal.fix_place-requires
fix_place-requires g c =
    let p = meant g.Q.Tone.Tone.algebra g.P.Plan.meaning g.Q.Quantiser.tables c.args.self.now c.args.drawing.now in
    let fit = fitting p (band c.args.codes.now c.args.amounts.now) (sym c.if-not-lengths_match.ensures) in
    record { amounts = c.loop-count.auto.amounts ∙ fit.amounts; codes = c.loop-count.auto.codes ∙ fit.codes }

pub loop-count-preserved : goal.loop-count-preserved
loop-count-preserved g c =
    let j = (meant g.Q.Tone.Tone.algebra g.P.Plan.meaning g.Q.Quantiser.tables c.args.self.now c.args.drawing.now).setting in
    let start = band c.args.codes.now c.args.amounts.now in
    let ps = c.args.places.now in
    let i = c.loop-count.count in
    let before = band c.loop-count.codes c.loop-count.amounts in
    let after = band c.fix_place.new.codes c.fix_place.new.amounts in
    let s = get_or ps i 0 in
    let a = attempt_accepted j s before after c.in_default.field-0 c.in_default.ensures in
    subst (FollowedTo j start ps (i + 1)) (sym a.made) (follow_next j start ps i before c.loop-count-test.true a.free c.loop-count.invariant)

pub returns-in-Err : goal.returns-in-Err
returns-in-Err g c =
    let p = meant g.Q.Tone.Tone.algebra g.P.Plan.meaning g.Q.Quantiser.tables c.args.self.now c.args.drawing.now in
    let start = band c.args.codes.now c.args.amounts.now in
    let ps = c.args.places.now in
    let i = c.loop-count.count in
    let before = band c.loop-count.codes c.loop-count.amounts in
    let after = band c.fix_place.new.codes c.fix_place.new.amounts in
    let s = get_or ps i 0 in
    let d = attempt_declined p.setting s before after (number_of c.in-Err.refusal) c.in-Err.ensures in
    let number_is : c.number-in-Err.result ≡ suc d.less = c.number-in-Err.ensures ∙ d.number in
    (λ x. told (Followed (i) (number_is x)) (d.same x))
    ∙ follow-told p start ps _ (sym c.if-not-lengths_match.ensures) (follow_refused p.setting start ps i d.less before c.loop-count-test.true d.ground c.loop-count.invariant)

pub returns : goal.returns
returns g c =
    let p = meant g.Q.Tone.Tone.algebra g.P.Plan.meaning g.Q.Quantiser.tables c.args.self.now c.args.drawing.now in
    let start = band c.args.codes.now c.args.amounts.now in
    let ps = c.args.places.now in
    let after = band c.loop-count.codes c.loop-count.amounts in
    let all : length ps ≡ c.loop-count.count = omega arith in
    (λ x. told (Followed (all x) 0) after)
    ∙ follow-told p start ps _ (sym c.if-not-lengths_match.ensures) (follow_ended p.setting start ps c.loop-count.count after c.loop-count-test.false c.loop-count.invariant)
