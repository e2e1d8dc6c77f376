-- The refusals of a fix, one by one.
use Rattle.std.proofs.Common.{◌≡◌, ℕ, ◌<◌, ◌≤◌, Bool, true, false, ltb, ◌∙◌}
use Rattle.std.proofs.lemmas.Bool.{cond-true, cond-false, lt-ltb, le-ltb}
use Rattle.diffusion.specs.Neighbourhoods.{Neighbourhood}
use Rattle.diffusion.specs.Sets.{ready_by}
use Rattle.model.specs.Fixes.{refusal}

module _ (squares : Neighbourhood) (F : ℕ → Bool) (s : ℕ) where
  pub refused_outside : squares.count ≤ s → refusal squares F s ≡ 3
  unfolding refusal
  refused_outside out = cond-false (ltb s squares.count) _ _ (le-ltb s squares.count out)

  pub refused_fixed : s < squares.count → F s ≡ true → refusal squares F s ≡ 4
  unfolding refusal
  refused_fixed inside fixed = cond-true (ltb s squares.count) _ _ (lt-ltb s squares.count inside) ∙ cond-true (F s) _ _ fixed

  pub refused_waiting : s < squares.count → F s ≡ false → ready_by squares F s 8 ≡ false → refusal squares F s ≡ 5
  unfolding refusal
  refused_waiting inside open_there waits =
      cond-true (ltb s squares.count) _ _ (lt-ltb s squares.count inside) ∙ cond-false (F s) _ _ open_there ∙ cond-false (ready_by squares F s 8) _ _ waits

  pub not_refused : s < squares.count → F s ≡ false → ready_by squares F s 8 ≡ true → refusal squares F s ≡ 0
  unfolding refusal
  not_refused inside open_there ready =
      cond-true (ltb s squares.count) _ _ (lt-ltb s squares.count inside) ∙ cond-false (F s) _ _ open_there ∙ cond-true (ready_by squares F s 8) _ _ ready
