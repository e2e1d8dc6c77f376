-- A job of the code as the definitions see it.
use Rattle.std.specs.Prelude.{ℕ, List}
use Rattle.tone.specs.Algebra.{Algebra}
use Rattle.plan.specs.Ranks.{Ranks}
use Rattle.quantiser.specs.Tables.{Tables}
use Rattle.diffusion.specs.Bands.{Bands}
use Rattle.diffusion.specs.Draft.{Setting}
use Rattle.diffusion.specs.Drawings.{plain_drawing, setting_of}
use Rattle.diffusion.specs.Neighbourhoods.{Neighbourhood}
use Rattle.model.specs.Jobs as pure
use Rattle.model.specs.Jobs.{job_of}
use Rattle.job.specs.declared.job.Job.{Job}

-- its squares, by what its plan means
abbrev pub squares_of : {P Q : Type 0} → (P → Ranks) → Job P Q → Neighbourhood
squares_of ranks j = plain_drawing j.size.rows j.size.columns (ranks j.plan)

-- the job on a drawing, by what its plan and its quantiser mean
abbrev pub meant : {P Q T : Type 0} → Algebra T → (P → Ranks) → (Q → Tables T) → Job P Q → List T → pure.Job T
meant tone ranks tables j drawing = job_of tone j.size.rows j.size.columns (ranks j.plan) (tables j.quantiser) drawing

-- the setting on a drawing of zeros: what a fix makes of bands does not depend on the drawing
abbrev pub setting_by : {P Q T : Type 0} → Algebra T → (P → Ranks) → (Q → Tables T) → Job P Q → Setting T
setting_by tone ranks tables j = setting_of tone j.size.rows j.size.columns (ranks j.plan) (tables j.quantiser) (λ s. tone.zero)

abbrev pub band : {T : Type 0} → List ℕ → List T → Bands T
band codes amounts = record { codes = codes; amounts = amounts }
