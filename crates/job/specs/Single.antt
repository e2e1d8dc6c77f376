-- What an attempt to fix one square of the drawing makes of bands of any content.
use Rattle.std.specs.Prelude.{ℕ, slice_index_or}
use Rattle.diffusion.specs.Bands.{Bands, standing, fixed_in}
use Rattle.diffusion.specs.Draft.{Setting}
use Rattle.model.specs.Calls.{Told, fix_at}
use Rattle.model.specs.Fixes.{refusal}

-- by its refusal: the code and the bands after the fix, or the bands as they were
abbrev pub attempt : {T : Type 0} → Setting T → ℕ → Bands T → Told T (Bands T)
attempt j s b = fix_at (refusal j.squares (standing b.codes) s) (j.tables.choice (slice_index_or b.amounts s j.algebra.zero)) (fixed_in j s b) b
