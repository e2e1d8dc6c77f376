use Rattle.std.proofs.Common.{◌+◌, drop, ap, ◌∙◌, rules, tests}
use Rattle.std.proofs.lemmas.Iterator.{YieldsList-from_slice}
use Rattle.std.proofs.lemmas.Iterator.Consumers.{YieldsList-at, count_from_yields_List}
use Rattle.std.proofs.lemmas.Iterator.Search.{YieldsList-from_take_while}
use Rattle.std.proofs.lemmas.List.Folds.{length-prefix_len}
use Rattle.netpbm.specs.Words.{separator}
use Rattle.netpbm.proofs.number.start.Goals as goal

pub returns : goal.returns
returns c =
    let at = c.args.at in
    let rest = drop at c.args.input.now in
    let bytes = YieldsList-at c.take_while.ensures.source (YieldsList-from_slice rest (c.iter.ensures.rest ∙ c.rest.ensures)) in
    let count = count_from_yields_List c.take_while.result c.count.result c.count.ensures.ran
    (YieldsList-from_take_while _ separator bytes c.take_while.ensures.closure c.take_while.ensures.done (λ x b q k. search (rules, tests))) in
    ap (λ n. at + n) (count ∙ length-prefix_len separator rest)
