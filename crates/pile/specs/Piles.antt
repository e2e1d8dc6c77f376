-- What a plan with layers over it means.
use Rattle.std.specs.Prelude.{List, ℕ, get_or, Option, None}
use Rattle.plan.specs.Doubling.{doubling_plan}
use Rattle.plan.specs.Knuth.{knuth_plan}
use Rattle.plan.specs.Layers.{shifted, mirrored, turned, reversed, optional}
use Rattle.plan.specs.Ranks.{Ranks}
use Rattle.plan.specs.Table.{table_plan}
use Rattle.pile.specs.declared.any_layer.AnyLayer.{AnyLayer}
use Rattle.pile.specs.declared.any_layer.AnyLayer.TheVariants.{Shift, Mirror, Turn, Reverse}
use Rattle.pile.specs.declared.base.Base.{Base}
use Rattle.pile.specs.declared.base.Base.TheVariants.{Knuth, Doubling, Table}

-- what each layer makes of the plan below
abbrev pub any_layer : AnyLayer → Ranks → Ranks
any_layer (Shift a b) m = shifted a b m
any_layer Mirror m = mirrored m
any_layer Turn m = turned m
any_layer Reverse m = reversed m

-- the same, and the plan as it stands where there is no layer
abbrev pub laid : Option AnyLayer → Ranks → Ranks
laid = optional any_layer

-- the layer at a place of a list, and none behind its end
abbrev pub nth : List (Option AnyLayer) → ℕ → Option AnyLayer
nth layers k = get_or layers k None

-- what the plan is on which a pile stands
abbrev pub base_ranks : Base → Ranks
base_ranks Knuth = knuth_plan
base_ranks (Doubling d) = doubling_plan d.order
base_ranks (Table t) = table_plan t.rows t.columns t.ranks
