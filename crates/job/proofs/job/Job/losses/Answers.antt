use Rattle.std.proofs.Common.{◌≡◌, ◌*◌, true, map, sym, ◌∙◌, arith}
use Rattle.model.specs.Calls.{listed}
use Rattle.model.specs.Calls.Answer.{Refused}
use Rattle.model.specs.Jobs.{fits}
use Rattle.job.specs.Listings.{lost_below}
use Rattle.job.specs.Meaning.{squares_of, meant, band}
use Rattle.job.specs.Shown.{tone_at}
use Rattle.job.proofs.Listed.{list_whole}
use Rattle.job.proofs.job.Job.losses.Goals as goal

pub returns : goal.returns
returns g c =
    let a = g.Q.Tone.Tone.algebra in
    let j = c.args.self.now in
    let codes = c.args.codes.now in
    let amounts = c.args.amounts.now in
    let p = meant a g.P.Plan.meaning g.Q.Quantiser.tables j c.args.drawing.now in
    let b = band codes amounts in
    let is : fits p b ≡ true = sym c.lengths_match.ensures ∙ c.if-not-lengths_match.false in
    let ps = lost_below (squares_of g.P.Plan.meaning j) codes (j.size.rows * j.size.columns) in
    let l = c.list_losses.ensures in
    let counted = c.count_losses-count.ensures in
    list_whole (fits p b) is ps (map (tone_at a amounts) ps) c.args.places.now c.args.errors.now (listed (Refused 2) c.args.places.now c.args.errors.now)
    c.list_losses.result c.list_losses.new.places c.list_losses.new.errors l.many (omega arith) (omega arith) l.places l.places_behind l.errors l.errors_behind
