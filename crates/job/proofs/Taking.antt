-- A square that is fixed where it is open, and what that is in an attempt and in Finish.
use Rattle.std.proofs.Common.{◌≡◌, ℕ, ◌<◌, Bool, true, false, cond, not, ◌&&◌, length, get_or, sym, refl, ap, ◌∙◌, ap₂, inl, inr, arith}
use Rattle.std.proofs.lemmas.List.{get_or-set_same}
use Rattle.std.proofs.lemmas.Bool.{cases_Bool, eq-eqb}
use Rattle.diffusion.specs.Bands.{Bands, standing, fixed_in}
use Rattle.diffusion.specs.Draft.{Setting}
use Rattle.diffusion.specs.Neighbourhoods.{Laws}
use Rattle.diffusion.specs.Sets.{every, ready_by}
use Rattle.diffusion.specs.Sweeps.{due_in}
use Rattle.model.specs.Calls.{told, fix_at}
use Rattle.model.specs.Calls.Answer.{Code}
use Rattle.model.specs.Fixes.{refusal}
use Rattle.job.specs.Progress.{Progress, progress, taken, visited, LowerStand}
use Rattle.job.specs.Single.{attempt}
use Rattle.job.proofs.Lower.{lower_ready}

module _ {T : Type 0} (j : Setting T) (s : ℕ) (b : Bands T) where
  -- an open one is fixed
  pub taken_open : standing b.codes s ≡ false → taken j s b ≡ progress 1 (fixed_in j s b)
  taken_open is = ap (λ f. progress (cond f 0 1) (cond f b (fixed_in j s b))) is

  -- the bands after an open square was taken
  pub after-taken : (n : ℕ) (after : Bands T) → standing b.codes s ≡ false → progress n after ≡ taken j s b → after ≡ fixed_in j s b
  after-taken n after is_open did = ap (λ (p : Progress T). p.bands) (did ∙ taken_open is_open)

  -- the code that stands there then
  pub code-taken : (n : ℕ) (after : Bands T) → s < length b.codes → standing b.codes s ≡ false → progress n after ≡ taken j s b
      → get_or after.codes s 0 ≡ j.tables.choice (get_or b.amounts s j.algebra.zero)
  code-taken n after inside is_open did = ap (λ (x : Bands T). get_or x.codes s 0) (after-taken n after is_open did) ∙ get_or-set_same b.codes s _ 0 inside

  -- an attempt that is not refused takes its square
  pub attempt-taken : (n code : ℕ) (after : Bands T) → s < length b.codes → standing b.codes s ≡ false → refusal j.squares (standing b.codes) s ≡ 0
      → progress n after ≡ taken j s b → code ≡ get_or after.codes s 0 → told (Code code) after ≡ attempt j s b
  attempt-taken n code after inside is_open none did code_is =
      let code_at = code_is ∙ code-taken n after inside is_open did in
      let after_at = after-taken n after is_open did in
      (λ i. told (Code (code_at i)) (after_at i))
      ∙ sym (ap (λ r. fix_at r (j.tables.choice (get_or b.amounts s j.algebra.zero)) (fixed_in j s b) b) none)

  -- where all lower ranks are fixed, a visit takes its square
  pub taken_visits : Laws j.squares → s < j.squares.count → LowerStand j.squares (j.squares.rank s) b.codes → taken j s b ≡ visited j (j.squares.rank s) s b
  taken_visits laws inside lower = elim (cases_Bool (standing b.codes s)) [
    | inl f ↦ by true f
    | inr f ↦ by false f
  ]
    where
      due_by : (f : Bool) → standing b.codes s ≡ f → due_in j every (j.squares.rank s) b s ≡ not f
      due_by f is =
          ap (λ x. x && (not (standing b.codes s) && ready_by j.squares (standing b.codes) s 8)) (eq-eqb (j.squares.rank s) (j.squares.rank s) refl)
          ∙ ap₂ (λ x y. not x && y) is (lower_ready j.squares laws b.codes s inside lower 8 (omega arith))
          ∙ last f
        where
          last : (f : Bool) → not f && true ≡ not f
          last true = refl
          last false = refl

      same : (f : Bool) → progress (cond f 0 1) (cond f b (fixed_in j s b)) ≡ progress (cond (not f) 1 0) (cond (not f) (fixed_in j s b) b)
      same true = refl
      same false = refl

      by : (f : Bool) → standing b.codes s ≡ f → taken j s b ≡ visited j (j.squares.rank s) s b
      by f is =
          ap (λ x. progress (cond x 0 1) (cond x b (fixed_in j s b))) is ∙ same f
          ∙ sym (ap (λ d. progress (cond d 1 0) (cond d (fixed_in j s b) b)) (due_by f is))
