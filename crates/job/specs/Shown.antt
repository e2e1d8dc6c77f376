-- What the bands show of one square: the terms of the totals.
use Rattle.std.specs.Prelude.{ℕ, cond, ◌&&◌, List, slice_index_or}
use Rattle.tone.specs.Algebra.{Algebra}
use Rattle.quantiser.specs.Tables.{Tables}
use Rattle.diffusion.specs.Bands.{standing}
use Rattle.diffusion.specs.Neighbourhoods.{Neighbourhood, baron}

-- the tone of a square in a band
abbrev pub tone_at : {T : Type 0} → Algebra T → List T → ℕ → T
tone_at tone band s = slice_index_or band s tone.zero

-- the output of a fixed square; zero for others
abbrev pub output_at : {T : Type 0} → Algebra T → Tables T → List ℕ → ℕ → T
output_at tone tables codes s = cond (standing codes s) (tables.output (slice_index_or codes s 255)) tone.zero

-- the error of a fixed baron; zero for others
abbrev pub loss_at : {T : Type 0} → Algebra T → Neighbourhood → List ℕ → List T → ℕ → T
loss_at tone squares codes amounts s = cond (standing codes s && baron squares s) (tone_at tone amounts s) tone.zero

-- the amount of an open square; zero for others
abbrev pub open_at : {T : Type 0} → Algebra T → List ℕ → List T → ℕ → T
open_at tone codes amounts s = cond (standing codes s) tone.zero (tone_at tone amounts s)
