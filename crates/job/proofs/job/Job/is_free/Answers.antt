use Rattle.std.proofs.Common.{sym, ap, ◌∙◌, arith}
use Rattle.grid.specs.Directions.{number_of}
use Rattle.diffusion.specs.Sets.{okay}
use Rattle.job.proofs.Around.{lower_some, lower_not, lower-inside}
use Rattle.job.proofs.Eight.{number-small}
use Rattle.job.proofs.job.Job.is_free.Goals as goal

pub is_fixed-requires : goal.is_fixed-requires
is_fixed-requires g c =
    let j = c.args.self.now in
    let pattern = c.requires.pattern in
    let d = number_of c.args.direction in
    let within = lower-inside j.size.rows j.size.columns (g.P.Plan.meaning j.plan) (g.met.P.Plan.lawful j.plan) c.args.place pattern.inside c.args.pattern.now.kinds pattern.kinds d (number-small c.args.direction) (sym c.kind.ensures ∙ c.in-Lower.is) in
    c.requires.callable c.place_beside.result (omega (arith, c.place_beside.ensures, within))

pub returns-in-Lower : goal.returns-in-Lower
returns-in-Lower g c set told =
    let j = c.args.self.now in
    let pattern = c.requires.pattern in
    let d = number_of c.args.direction in
    let kind-is = sym c.kind.ensures ∙ c.in-Lower.is in
    let within = lower-inside j.size.rows j.size.columns (g.P.Plan.meaning j.plan) (g.met.P.Plan.lawful j.plan) c.args.place pattern.inside c.args.pattern.now.kinds pattern.kinds d (number-small c.args.direction) kind-is in
    let lower-is = lower_some j.size.rows j.size.columns (g.P.Plan.meaning j.plan) (g.met.P.Plan.lawful j.plan) c.args.place pattern.inside c.args.pattern.now.kinds pattern.kinds d (number-small c.args.direction) kind-is in
    told c.place_beside.result c.is_fixed.result (omega (arith, c.place_beside.ensures, within)) c.is_fixed.ensures
    ∙ ap set c.place_beside.ensures ∙ sym (ap (okay set) lower-is)

pub returns-in_default : goal.returns-in_default
returns-in_default g c set told =
    let j = c.args.self.now in
    let pattern = c.requires.pattern in
    sym (ap (okay set) (lower_not j.size.rows j.size.columns (g.P.Plan.meaning j.plan) (g.met.P.Plan.lawful j.plan) c.args.place pattern.inside c.args.pattern.now.kinds pattern.kinds (number_of c.args.direction) (number-small c.args.direction) (λ e. c.in_default.not-Lower (c.kind.ensures ∙ e))))
