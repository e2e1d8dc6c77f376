-- Finish in parts: how many squares were fixed, and the bands after. The code works row by row, and the definition place by place.
use Rattle.std.specs.Prelude.{◌≡◌, ℕ, zero, suc, ◌+◌, ◌<◌, true, cond, List}
use Rattle.diffusion.specs.Bands.{Bands, standing, fixed_in}
use Rattle.diffusion.specs.Draft.{Setting}
use Rattle.diffusion.specs.Neighbourhoods.{Neighbourhood}
use Rattle.diffusion.specs.Sets.{every}
use Rattle.diffusion.specs.Sweeps.{due_in, visit_in, pass_in, passed_in, sweep_in, swept_in}

pub record Progress (T : Type 0) : Type 0 where
  pub count : ℕ
  pub bands : Bands T

abbrev pub progress : {T : Type 0} → ℕ → Bands T → Progress T
progress n b = record { count = n; bands = b }

-- s, and then f on its bands
abbrev pub and_then : {T : Type 0} → Progress T → (Bands T → Progress T) → Progress T
and_then s f = progress (s.count + (f s.bands).count) (f s.bands).bands

-- one square: fixed where it is open, whatever its neighbours
abbrev pub taken : {T : Type 0} → Setting T → ℕ → Bands T → Progress T
taken j s b = progress (cond (standing b.codes s) 0 1) (cond (standing b.codes s) b (fixed_in j s b))

module _ {T : Type 0} (j : Setting T) (rank : ℕ) where
  -- one square: fixed where it is of the rank, open and ready
  abbrev pub visited : ℕ → Bands T → Progress T
  visited s b = progress (cond (due_in j every rank b s) 1 0) (visit_in j every rank b s)

  -- n places from a on
  unfoldable pub passed_from : ℕ → ℕ → Bands T → Progress T
  passed_from a zero b = progress 0 b
  passed_from a (suc n) b = and_then (passed_from a n b) (visited (a + n))

  -- the places below n
  abbrev pub passed_below : ℕ → Bands T → Progress T
  passed_below n b = progress (passed_in j every rank b n) (pass_in j every rank b n)

-- the ranks below n
abbrev pub swept_below : {T : Type 0} → Setting T → ℕ → Bands T → Progress T
swept_below j n b = progress (swept_in j every b n) (sweep_in j every b n)

-- every square below a rank is fixed, so that no square of the rank waits
abbrev pub LowerStand : Neighbourhood → ℕ → List ℕ → Type 0
LowerStand squares rank codes = (s : ℕ) → s < squares.count → squares.rank s < rank → standing codes s ≡ true
