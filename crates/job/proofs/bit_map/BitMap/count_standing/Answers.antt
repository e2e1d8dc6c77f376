use Rattle.std.proofs.Common.{◌*◌, ◌∙◌, rules, tests}
use Rattle.std.proofs.lemmas.Iterator.{YieldsList-from_range}
use Rattle.std.proofs.lemmas.Iterator.Consumers.{YieldsList-from_filter, count_from_yields_List}
use Rattle.model.specs.Records.{stands}
use Rattle.job.proofs.Forms.{standing_all}
use Rattle.job.proofs.bit_map.BitMap.count_standing.Goals as goal

pub returns-clause-value : goal.returns-clause-value
returns-clause-value c =
    let size = c.args.self.now.size in
    let rec = c.args.self.now.bytes.now in
    count_from_yields_List c.filter.result _ c.count.ensures.ran (YieldsList-from_filter _ (stands rec) (YieldsList-from_range 0 c.squares.result (size.rows * size.columns) (search rules) (search rules)) c.filter.ensures.closure (λ x b q k. search (rules, tests)))
    ∙ standing_all rec (size.rows * size.columns)
