-- A sweep of the ranks does not look at the drawing: only the bands tell what the squares hold.
use Rattle.std.proofs.Common.{◌≡◌, ℕ, zero, suc, ◌+◌, ◌*◌, Bool, cond, refl, ap, ◌∙◌, ap₂}
use Rattle.tone.specs.Algebra.{Algebra}
use Rattle.plan.specs.Ranks.{Ranks}
use Rattle.quantiser.specs.Tables.{Tables}
use Rattle.diffusion.specs.Bands.{Bands}
use Rattle.diffusion.specs.Draft.{Setting}
use Rattle.diffusion.specs.Drawings.{setting_of}
use Rattle.diffusion.specs.Sweeps.{due_in, visit_in, pass_in, passed_in, sweep_in, swept_in}

module _ {T : Type 0} (tone : Algebra T) (rows columns : ℕ) (plan : Ranks) (tables : Tables T) (wanted : ℕ → Bool) (d e : ℕ → T) where
  -- the setting on a drawing
  abbrev on : (ℕ → T) → Setting T
  on drawing = setting_of tone rows columns plan tables drawing

  pub pass_any_drawing : (r : ℕ) (b : Bands T) (n : ℕ) → pass_in (on d) wanted r b n ≡ pass_in (on e) wanted r b n
  unfolding pass_in
  pass_any_drawing r b zero = refl
  pass_any_drawing r b (suc n) = ap (λ a. visit_in (on d) wanted r a n) (pass_any_drawing r b n)

  pub passed_any_drawing : (r : ℕ) (b : Bands T) (n : ℕ) → passed_in (on d) wanted r b n ≡ passed_in (on e) wanted r b n
  unfolding passed_in
  passed_any_drawing r b zero = refl
  passed_any_drawing r b (suc n) = ap₂ (λ k a. k + cond (due_in (on d) wanted r a n) 1 0) (passed_any_drawing r b n) (pass_any_drawing r b n)

  pub sweep_any_drawing : (b : Bands T) (n : ℕ) → sweep_in (on d) wanted b n ≡ sweep_in (on e) wanted b n
  unfolding sweep_in
  sweep_any_drawing b zero = refl
  sweep_any_drawing b (suc n) = pass_any_drawing n (sweep_in (on d) wanted b n) (rows * columns) ∙ ap (λ a. pass_in (on e) wanted n a (rows * columns)) (sweep_any_drawing b n)

  pub swept_any_drawing : (b : Bands T) (n : ℕ) → swept_in (on d) wanted b n ≡ swept_in (on e) wanted b n
  unfolding swept_in
  swept_any_drawing b zero = refl
  swept_any_drawing b (suc n) =
      ap₂ ◌+◌ (swept_any_drawing b n)
      (passed_any_drawing n (sweep_in (on d) wanted b n) (rows * columns) ∙ ap (λ a. passed_in (on e) wanted n a (rows * columns)) (sweep_any_drawing b n))
