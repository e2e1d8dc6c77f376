use Rattle.std.proofs.Common.{None, ap, ◌∙◌, rules, tests}
use Rattle.std.proofs.lemmas.Iterator.{YieldsList-from_slice}
use Rattle.std.proofs.lemmas.Iterator.Consumers.{fold_from_yields_List}
use Rattle.job.specs.Patterns.{last_number}
use Rattle.job.proofs.Eight.{directions}
use Rattle.job.proofs.KindLists.{goes_on, last_told}
use Rattle.job.proofs.job.gather.last_of.Goals as goal

pub returns : goal.returns
returns c =
    let ks = c.args.kinds.now in
    ap last_number (fold_from_yields_List _ (goes_on ks) None c.fold.result c.fold.ensures.ran (YieldsList-from_slice directions (search rules)) (λ before x b q k. search (rules, tests)))
    ∙ last_told ks
