use Rattle.std.proofs.Common.{◌∙◌, rules, tests}
use Rattle.std.proofs.lemmas.Iterator.{YieldsList-from_slice, YieldsList-from_map}
use Rattle.std.proofs.lemmas.Iterator.Consumers.{sum_by_from_yields_List, fits_by_from_yields_list}
use Rattle.job.proofs.Eight.{directions}
use Rattle.job.proofs.KindLists.{weighs, weighed, weighed_small}
use Rattle.job.proofs.job.gather.weights_of.Goals as goal

pub sum-requires-clause-fits : goal.sum-requires-clause-fits
sum-requires-clause-fits c =
    let ks = c.args.kinds.now in
    fits_by_from_yields_list (weighs ks) directions c.map.result _
    (YieldsList-from_map _ (weighs ks) (YieldsList-from_slice directions (search rules)) c.map.ensures.closure (λ x r q k. search (rules, tests)))
    (weighed_small ks)

pub returns : goal.returns
returns c =
    let ks = c.args.kinds.now in
    sum_by_from_yields_List (weighs ks) directions c.map.result c.sum.result c.sum.ensures.ran
    (YieldsList-from_map _ (weighs ks) (YieldsList-from_slice directions (search rules)) c.map.ensures.closure (λ x r q k. search (rules, tests)))
    ∙ weighed ks
