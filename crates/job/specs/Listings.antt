-- How far two lists tell the losses of bands.
use Rattle.std.specs.Prelude.{◌≡◌, ℕ, List, map, length, take, drop}
use Rattle.tone.specs.Algebra.{Algebra}
use Rattle.diffusion.specs.Bands.{standing}
use Rattle.diffusion.specs.Neighbourhoods.{Neighbourhood}
use Rattle.diffusion.specs.Tallies.{lost}
use Rattle.job.specs.Shown.{tone_at}

-- the places of the fixed barons below n
abbrev pub lost_below : Neighbourhood → List ℕ → ℕ → List ℕ
lost_below squares codes n = lost squares (standing codes) n

-- the first k of ps and of es tell those below n, and behind these the lists are as old_ps and old_es
pub record Listing {T : Type 0} (tone : Algebra T) (squares : Neighbourhood) (codes : List ℕ) (amounts : List T) (n k : ℕ) (old_ps ps : List ℕ) (old_es es : List T) : Type 0 where
  pub many : k ≡ length (lost_below squares codes n)
  pub places : take k ps ≡ lost_below squares codes n
  pub places_behind : drop k ps ≡ drop k old_ps
  pub errors : take k es ≡ map (tone_at tone amounts) (lost_below squares codes n)
  pub errors_behind : drop k es ≡ drop k old_es
