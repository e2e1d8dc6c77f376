-- Two jobs that mean the same.
use Rattle.std.specs.Prelude.{◌≡◌, ℕ, ◌<◌, List}
use Rattle.plan.specs.Ranks.{Ranks}
use Rattle.quantiser.specs.Tables.{Tables}
use Rattle.model.specs.Calls.{Call, Pools}
use Rattle.model.specs.Jobs.{Job, squares}
use Rattle.model.specs.Theorems.{fixed_after, bands_after}

-- equal ranks; equal choices and outputs
pub record SameMeaning {T : Type 0} (m n : Ranks) (t u : Tables T) : Type 0 where
  pub rank : (r c : ℕ) → m.rank r c ≡ n.rank r c
  pub choice : (x : T) → t.choice x ≡ u.choice x
  pub output : (c : ℕ) → t.output c ≡ u.output c

-- lists of calls that end with the same squares fixed end with the same bands
abbrev pub SameBands : {T : Type 0} → Job T → Job T → Type 0
SameBands {T} p q = (cs ds : List Call) (o u : Pools T) → ((s : ℕ) → s < squares p → fixed_after p cs o s ≡ fixed_after q ds u s) → bands_after p cs o ≡ bands_after q ds u
