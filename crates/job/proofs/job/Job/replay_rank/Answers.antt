use Rattle.std.proofs.Common.{◌≡◌, ◌+◌, ◌*◌, ◌≤◌, Some, None, sym, ap, ◌∙◌, arith, rules}
use Rattle.model.specs.Replays.{replay_visit, replay_sweep}
use Rattle.model.proofs.OneMore.{replay_sweep-none}
use Rattle.job.specs.Meaning.{setting_by}
use Rattle.job.proofs.Reading.{place-below, inside-same}
use Rattle.job.proofs.Working.{kept_none, place_again, place_failed}
use Rattle.job.proofs.job.Job.replay_rank.Goals as goal

pub loop-square-init : goal.loop-square-init
loop-square-init g c =
    let j = setting_by g.Q.Tone.Tone.algebra g.P.Plan.meaning g.Q.Quantiser.tables c.args.self.now in
    let first : 0 ≡ c.into_iter-square-iterator.result.place = search rules in
    (tt, tt, search rules, sym (replay_sweep-none j c.args.codes.now c.args.rank _) ∙ ap (replay_sweep j c.args.codes.now c.args.rank _) first)

pub loop-square-preserved : goal.loop-square-preserved
loop-square-preserved g c =
    let j = setting_by g.Q.Tone.Tone.algebra g.P.Plan.meaning g.Q.Quantiser.tables c.args.self.now in
    let step = c.in-Some.ensures.steps in
    let inv = c.loop-square.invariant in
    let worked = c.in_ok-replay_square.ensures.kept ∙ ap (λ n. replay_visit j c.args.codes.now c.args.rank n (Some c.loop-square.amounts)) step.1.is in
    (tt, tt, step.0 ∙ inv.2, place_again j c.args.codes.now c.args.rank _ _ _ _ inv.3 worked ∙ ap (replay_sweep j c.args.codes.now c.args.rank _) (sym step.1.rises))

pub returns-in_err-replay_square-clause-kept : goal.returns-in_err-replay_square-clause-kept
returns-in_err-replay_square-clause-kept g c =
    let size = c.args.self.now.size in
    let j = setting_by g.Q.Tone.Tone.algebra g.P.Plan.meaning g.Q.Quantiser.tables c.args.self.now in
    let step = c.in-Some.ensures.steps in
    let inv = c.loop-square.invariant in
    let below = place-below size c.in-Some.square (inside-same _ _ c.in-Some.square inv.2 step.1.inside) in
    let worked = c.in_err-replay_square.ensures.kept ∙ ap (λ n. replay_visit j c.args.codes.now c.args.rank n (Some c.loop-square.amounts)) step.1.is in
    let n = c.loop-square.square-iterator.place in
    let within : n + 1 ≤ size.rows * size.columns = omega (arith, below, step.1.is) in
    kept_none c.from_residual.result _ c.from_residual.ensures.0
    ∙ place_failed j c.args.codes.now c.args.rank _ (n + 1) (size.rows * size.columns) within (place_again j c.args.codes.now c.args.rank _ _ _ None inv.3 worked)
