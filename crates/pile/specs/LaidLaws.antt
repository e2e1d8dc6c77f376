-- Whichever layer stands over a lawful plan, the two are a lawful plan.
use Rattle.plan.specs.Ranks.{Ranks, Lawful}
use Rattle.plan.specs.LayerLaws.{shifted_lawful, mirrored_lawful, turned_lawful, reversed_lawful}
use Rattle.std.specs.Prelude.{Some, None, Option}
use Rattle.pile.specs.Piles.{any_layer, laid}
use Rattle.pile.specs.declared.any_layer.AnyLayer.{AnyLayer}
use Rattle.pile.specs.declared.any_layer.AnyLayer.TheVariants.{Shift, Mirror, Turn, Reverse}

pub any_lawful : (l : AnyLayer) (m : Ranks) → Lawful m → Lawful (any_layer l m)
any_lawful (Shift a b) m law = shifted_lawful m a b law
any_lawful Mirror m law = mirrored_lawful m law
any_lawful Turn m law = turned_lawful m law
any_lawful Reverse m law = reversed_lawful m law

-- the same where there may be none
pub laid_lawful : (l : Option AnyLayer) (m : Ranks) → Lawful m → Lawful (laid l m)
laid_lawful None m law = law
laid_lawful (Some l) m law = any_lawful l m law
