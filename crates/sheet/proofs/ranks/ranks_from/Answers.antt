use Rattle.std.proofs.Common.{rules}
use Rattle.sheet.proofs.Reading.{reads_made}
use Rattle.sheet.proofs.ranks.ranks_from.Goals as goal

pub returns-clause-ranks : goal.returns-clause-ranks
returns-clause-ranks g c =
    reads_made _ _ _ _ _ (λ i y q k. search rules) _ c.from_fn.ensures.items c.requires
