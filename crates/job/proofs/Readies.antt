-- Whether a square may be fixed, one direction after the other.
use Rattle.std.proofs.Common.{◌≡◌, ℕ, suc, ◌<◌, Bool, true, false, ◌&&◌, MatchBool, refl, sym, ap, ◌∙◌, ap₂, inl, inr, arith}
use Rattle.std.specs.List.{AllWithin, HoldsAt}
use Rattle.std.proofs.lemmas.Bool.{cases_eq}
use Rattle.diffusion.specs.Neighbourhoods.{Neighbourhood, lower}
use Rattle.diffusion.specs.Sets.{okay, ready_by}
use Rattle.grid.specs.Directions.{number_of}
use Rattle.grid.specs.declared.direction.Direction.{Direction}
use Rattle.grid.specs.declared.direction.Direction.TheVariants.{N}
use Rattle.job.proofs.Eight.{directions, nth, numbered}

module _ (squares : Neighbourhood) (F : ℕ → Bool) (s : ℕ) where
  -- one direction that is not free is enough
  ready_fails : (n d : ℕ) → d < n → okay F (lower squares s d) ≡ false → ready_by squares F s n ≡ false
  unfolding ready_by
  ready_fails ℕ.zero d l h = absurd (omega arith)
  ready_fails (suc n) d l h = elim (cases_eq d n) [
    | inl e ↦ ap (λ b. b && ready_by squares F s n) (ap (λ i. okay F (lower squares s i)) (sym' e) ∙ h)
    | inr ne ↦ ap (λ b. okay F (lower squares s n) && b) (ready_fails n d (omega arith) h) ∙ never (okay F (lower squares s n))
  ]
    where
      sym' : {a b : ℕ} → a ≡ b → b ≡ a
      sym' e = omega arith

      never : (b : Bool) → b && false ≡ false
      never true = refl
      never false = refl

  -- each direction below n is free
  ready_each : (n : ℕ) → ((d : ℕ) → d < n → okay F (lower squares s d) ≡ true) → ready_by squares F s n ≡ true
  unfolding ready_by
  ready_each ℕ.zero h = refl
  ready_each (suc n) h = ap₂ ◌&&◌ (h n (omega arith)) (ready_each n (λ d l. h d (omega arith)))

  -- by a test of the directions in turn
  abbrev pub free : Direction → Bool
  free direction = okay F (lower squares s (number_of direction))

  free-at : (d : ℕ) → d < 8 → free (nth d) ≡ okay F (lower squares s d)
  free-at d l = ap (λ n. okay F (lower squares s n)) (numbered d l)

  pub ready_told : (r : Bool) → MatchBool r (AllWithin (λ direction. true ≡ free direction) directions 0 8) ((k : ℕ) × (k < 8) × HoldsAt (λ direction. false ≡ free direction) directions k) → r ≡ ready_by squares F s 8
  ready_told true each = sym (ready_each 8 (λ d l. sym (each d N (omega arith) l ∙ free-at d l)))
  ready_told false one = sym (ready_fails 8 one.0 one.1 (sym (one.2 N ∙ free-at one.0 one.1)))
