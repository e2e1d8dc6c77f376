use Rattle.std.proofs.Common.{◌∙◌, arith, rules, tests}
use Rattle.std.proofs.lemmas.Iterator.{YieldsList-from_slice, YieldsList-from_map}
use Rattle.std.proofs.lemmas.Iterator.Consumers.{sum_by_from_yields_List, fits_by_from_yields_list}
use Rattle.bits.specs.Bits.{fixed}
use Rattle.job.proofs.Counted.{one_if, counted, counted_most}
use Rattle.job.proofs.writing.count_fixed.Goals as goal

pub sum-requires-clause-fits : goal.sum-requires-clause-fits
sum-requires-clause-fits c =
    let codes = c.args.codes.now in
    fits_by_from_yields_list (one_if fixed) codes c.map.result _
    (YieldsList-from_map _ (one_if fixed) (YieldsList-from_slice codes (search rules)) c.map.ensures.closure (λ x r q k. search (rules, tests)))
    (omega (arith, counted fixed codes, counted_most fixed codes, c.iter.ensures.bound))

pub returns-clause-value : goal.returns-clause-value
returns-clause-value c =
    let codes = c.args.codes.now in
    sum_by_from_yields_List (one_if fixed) codes c.map.result c.sum.result c.sum.ensures.ran
    (YieldsList-from_map _ (one_if fixed) (YieldsList-from_slice codes (search rules)) c.map.ensures.closure (λ x r q k. search (rules, tests)))
    ∙ counted fixed codes

pub returns-clause-bound : goal.returns-clause-bound
returns-clause-bound c =
    let codes = c.args.codes.now in
    omega (arith, returns-clause-value c, counted_most fixed codes)
