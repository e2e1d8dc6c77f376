-- Lower and higher neighbours: what they are, and that each is the other seen from the other side.
use Rattle.std.proofs.Common.{◌≡◌, ℕ, ◌<◌, Bool, true, false, cond, ltb, Some, None, Option, sym, refl, ap, ◌∙◌, arith}
use Rattle.std.proofs.lemmas.Bool.{ltb-true, lt-ltb}
use Rattle.grid.specs.Directions.{opposite}
use Rattle.diffusion.specs.Neighbourhoods.{Neighbourhood, Laws, keep, lower, higher}

pub keep_some : (p : ℕ → Bool) (o : Option ℕ) (t : ℕ) → keep p o ≡ Some t → (o ≡ Some t) × (p t ≡ true)
keep_some p None t h = let z : ◌≡◌ {A = ℕ} 0 1 = cc in absurd (omega arith)
keep_some p (Some u) t h = go (p u) refl h
  where
    go : (b : Bool) → p u ≡ b → cond b (Some u) None ≡ Some t → (Some u ≡ Some t) × (p t ≡ true)
    go true e k = (k, let same : u ≡ t = cc in ap p (sym same) ∙ e)
    go false e k = let z : ◌≡◌ {A = ℕ} 0 1 = cc in absurd (omega arith)

pub keep_is : (p : ℕ → Bool) (o : Option ℕ) (t : ℕ) → o ≡ Some t → p t ≡ true → keep p o ≡ Some t
keep_is p o t h k = rw (h, k)

module _ (squares : Neighbourhood) where
  pub lower_near : (s d t : ℕ) → lower squares s d ≡ Some t → (squares.near s d ≡ Some t) × (squares.rank t < squares.rank s)
  unfolding lower
  lower_near s d t h =
      let k = keep_some (λ u. ltb (squares.rank u) (squares.rank s)) (squares.near s d) t h in
      (k.0, ltb-true (squares.rank t) (squares.rank s) k.1)

  pub higher_near : (s d t : ℕ) → higher squares s d ≡ Some t → (squares.near s d ≡ Some t) × (squares.rank s < squares.rank t)
  unfolding higher
  higher_near s d t h =
      let k = keep_some (λ u. ltb (squares.rank s) (squares.rank u)) (squares.near s d) t h in
      (k.0, ltb-true (squares.rank s) (squares.rank t) k.1)

  pub near_lower : (s d t : ℕ) → squares.near s d ≡ Some t → squares.rank t < squares.rank s → lower squares s d ≡ Some t
  unfolding lower
  near_lower s d t h l = keep_is (λ u. ltb (squares.rank u) (squares.rank s)) (squares.near s d) t h (lt-ltb (squares.rank t) (squares.rank s) l)

  pub near_higher : (s d t : ℕ) → squares.near s d ≡ Some t → squares.rank s < squares.rank t → higher squares s d ≡ Some t
  unfolding higher
  near_higher s d t h l = keep_is (λ u. ltb (squares.rank s) (squares.rank u)) (squares.near s d) t h (lt-ltb (squares.rank s) (squares.rank t) l)

pub opposite-below : (d : ℕ) → opposite d < 8
opposite-below d = omega arith

pub opposite_twice : (d : ℕ) → d < 8 → opposite (opposite d) ≡ d
opposite_twice d h = omega arith

module _ (squares : Neighbourhood) (laws : Laws squares) where
  pub lower-within : (s d t : ℕ) → s < squares.count → d < 8 → lower squares s d ≡ Some t → t < squares.count
  lower-within s d t ls ld h = laws.inside s d t ls ld (lower_near squares s d t h).0

  pub higher-within : (s d t : ℕ) → s < squares.count → d < 8 → higher squares s d ≡ Some t → t < squares.count
  higher-within s d t ls ld h = laws.inside s d t ls ld (higher_near squares s d t h).0

  -- t is a higher neighbour of s where s is a lower one of t, in the opposite direction
  pub higher-lower : (s d t : ℕ) → s < squares.count → d < 8 → higher squares s d ≡ Some t → lower squares t (opposite d) ≡ Some s
  higher-lower s d t ls ld h =
      let k = higher_near squares s d t h in
      near_lower squares t (opposite d) s (laws.returns s d t ls ld k.0) k.1

  pub lower-higher : (s d t : ℕ) → s < squares.count → d < 8 → lower squares s d ≡ Some t → higher squares t (opposite d) ≡ Some s
  lower-higher s d t ls ld h =
      let k = lower_near squares s d t h in
      near_higher squares t (opposite d) s (laws.returns s d t ls ld k.0) k.1
