use Rattle.std.proofs.Common.{◌≡◌, suc, ◌+◌, ◌≤◌, None, ◌∙◌, arith}
use Rattle.model.proofs.OneMore.{replay-none}
use Rattle.job.proofs.Working.{kept_none, rank_again, rank_failed}
use Rattle.job.proofs.job.Job.replay.Goals as goal

pub loop-rank-init : goal.loop-rank-init
loop-rank-init g c = rw replay-none

pub loop-rank-preserved : goal.loop-rank-preserved
loop-rank-preserved g c = rank_again _ _ _ _ _ _ c.loop-rank.invariant c.in_ok-replay_rank.ensures.kept

pub returns-in_err-replay_rank-clause-kept : goal.returns-in_err-replay_rank-clause-kept
returns-in_err-replay_rank-clause-kept g c =
    let top = (g.P.Plan.meaning c.args.self.now.plan).top in
    let below : c.loop-rank.rank + 1 ≤ suc top = omega (arith, c.top-rank-end.ensures) in
    kept_none c.from_residual.result _ c.from_residual.ensures.0
    ∙ rank_failed _ _ _ _ _ below (rank_again _ _ _ _ _ None c.loop-rank.invariant c.in_err-replay_rank.ensures.kept)

pub returns-in_ok-replay_rank-clause-kept : goal.returns-in_ok-replay_rank-clause-kept
returns-in_ok-replay_rank-clause-kept g c =
    let top = (g.P.Plan.meaning c.args.self.now.plan).top in
    let all : c.loop-rank.rank + 1 ≡ suc top = omega (arith, c.top-rank-end.ensures) in
    rw (← all) (rank_again _ _ _ _ _ _ c.loop-rank.invariant c.in_ok-replay_rank.ensures.kept)
