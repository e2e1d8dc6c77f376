-- Whether a square may stand as a record has it.
use Rattle.std.specs.Prelude.{ℕ, Bool, not, ◌||◌, List}
use Rattle.diffusion.specs.Neighbourhoods.{Neighbourhood}
use Rattle.diffusion.specs.Sets.{ready_by}
use Rattle.model.specs.Records.{stands}

-- it does not stand, or all its lower neighbours do
abbrev pub may_stand : Neighbourhood → List ℕ → ℕ → Bool
may_stand squares rec s = not (stands rec s) || ready_by squares (stands rec) s 8
