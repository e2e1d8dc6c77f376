-- The four totals of a job and the list of its losses: as the definition has them when just the squares of a set are fixed, and as bands of
-- any content show them.
use Rattle.std.specs.Prelude.{ℕ, zero, suc, Bool, cond, ◌&&◌, List, [], ◌∷◌, ◌++◌, map, get_or, slice_index_or}
use Rattle.tone.specs.Sums.{total}
use Rattle.diffusion.specs.Bands.{Bands, standing, amount_at}
use Rattle.diffusion.specs.Draft.{Setting, code, error}
use Rattle.diffusion.specs.Neighbourhoods.{Neighbourhood, baron}

-- added over all squares
abbrev pub all_of : {T : Type 0} → Setting T → (ℕ → T) → T
all_of j f = total j.algebra f j.squares.count

-- the drawing's total
abbrev pub drawing_total : {T : Type 0} → Setting T → T
drawing_total j = all_of j j.drawing

module _ {T : Type 0} (j : Setting T) (F : ℕ → Bool) where
  -- the output of a fixed square; zero for others
  abbrev pub output_of : ℕ → T
  output_of s = cond (F s) (j.tables.output (code j s)) j.algebra.zero

  -- the error of a fixed baron; zero for others
  abbrev pub loss_of : ℕ → T
  loss_of s = cond (F s && baron j.squares s) (error j s) j.algebra.zero

  -- the amount of an open square; zero for others
  abbrev pub open_of : ℕ → T
  open_of s = cond (F s) j.algebra.zero (amount_at j F s)

-- the outputs of the fixed squares, the errors of the fixed barons and the amounts of the open squares, as bands show them
module _ {T : Type 0} (j : Setting T) (b : Bands T) where
  abbrev pub output_total : T
  output_total = all_of j (λ s. cond (standing b.codes s) (j.tables.output (slice_index_or b.codes s 255)) j.algebra.zero)

  abbrev pub loss_total : T
  loss_total = all_of j (λ s. cond (standing b.codes s && baron j.squares s) (slice_index_or b.amounts s j.algebra.zero) j.algebra.zero)

  abbrev pub open_total : T
  open_total = all_of j (λ s. cond (standing b.codes s) j.algebra.zero (slice_index_or b.amounts s j.algebra.zero))

-- the fixed barons below n, by rising place
unfoldable pub lost : Neighbourhood → (ℕ → Bool) → ℕ → List ℕ
lost squares F zero = []
lost squares F (suc n) = lost squares F n ++ cond (F n && baron squares n) (n ∷ []) []

-- the places of the losses that bands show, and the errors there
module _ {T : Type 0} (j : Setting T) (b : Bands T) where
  abbrev pub loss_places : List ℕ
  loss_places = lost j.squares (standing b.codes) j.squares.count

  abbrev pub loss_errors : List T
  loss_errors = map (λ s. get_or b.amounts s j.algebra.zero) loss_places
