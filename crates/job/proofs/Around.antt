-- What lies around a square of a plain drawing: the kinds and the places that the code works out are those of the definition.
use Rattle.std.proofs.Common.{◌≡◌, ℕ, zero, suc, ◌+◌, ◌-◌, ◌*◌, ◌/◌, ◌%◌, ◌<◌, ◌≤◌, Bool, true, false, cond, ◌&&◌, ltb, List, get_or, is_some, Some, None, Option, sym, refl, ap, ◌∙◌, ap₂, add-mul, one-mul, mul-zero, arith}
use Rattle.std.proofs.lemmas.Bool.{cond-true, lt-ltb, ltb-true, cond_both, and_from}
use Rattle.std.proofs.lemmas.Nat.{div-add-mod', div_below, mod_below}
use Rattle.plan.specs.Ranks.{Ranks}
use Rattle.plan.specs.Ranks as plans
use Rattle.grid.specs.Directions.{down, across, weight}
use Rattle.grid.specs.Lines.{plain, step}
use Rattle.grid.specs.Neighbours.{both, neighbour}
use Rattle.grid.specs.declared.direction.Step.{Step}
use Rattle.grid.specs.declared.direction.Step.TheVariants.{Back, Stay, Ahead}
use Rattle.diffusion.specs.Drawings.{plain_drawing}
use Rattle.diffusion.specs.Neighbourhoods.{Neighbourhood, keep, lower, higher, weights, last}
use Rattle.diffusion.proofs.Lines.{by_eight, lays_out}
use Rattle.diffusion.proofs.Neighbours.{lower-within, higher-within}
use Rattle.job.specs.Patterns.{compared, kind_by, kind_of, kind_at, beside, kind_weight, kinds_weight, kind_last, kinds_last, lower_place, higher_place}
use Rattle.job.specs.declared.kind.Kind.{Kind}
use Rattle.job.specs.declared.kind.Kind.TheVariants.{Neither, Lower, Higher}

above : (row columns : ℕ) → 0 < row → (row - 1) * columns + columns ≡ row * columns
above row columns h =
    let whole : row - 1 + 1 ≡ row = omega (arith, h) in
    sym (add-mul (row - 1) 1 columns ∙ ap (λ n. (row - 1) * columns + n) (one-mul columns)) ∙ ap (λ n. n * columns) whole

below : (row columns : ℕ) → (row + 1) * columns ≡ row * columns + columns
below row columns = add-mul row 1 columns ∙ ap (λ n. row * columns + n) (one-mul columns)

module _ (rows columns row column : ℕ) where
  -- a neighbour has the place that is worked out for it
  abbrev Meets : ℕ → Option ℕ → Option ℕ → Type 0
  Meets d None k = Unit {0}
  Meets d (Some r) None = Unit {0}
  Meets d (Some r) (Some k) = beside columns (row * columns + column) d ≡ r * columns + k

  meets : (d : ℕ) → d < 8 → Meets d (step (plain rows) (down d) row) (step (plain columns) (across d) column)
  meets = by_eight (λ d. Meets d (step (plain rows) (down d) row) (step (plain columns) (across d) column))
      (cond_both (ltb 0 row) (Some (row - 1)) None (λ r. Meets 0 r (Some column)) (λ e. omega (arith, above row columns (ltb-true 0 row e))) (λ _. tt))
      (cond_both (ltb 0 row) (Some (row - 1)) None (λ r. Meets 1 r (step (plain columns) Ahead column))
      (λ e. cond_both (ltb (column + 1) columns) (Some (column + 1)) None (λ k. Meets 1 (Some (row - 1)) k) (λ f. omega (arith, above row columns (ltb-true 0 row e))) (λ _. tt)) (λ _. tt))
      (cond_both (ltb (column + 1) columns) (Some (column + 1)) None (λ k. Meets 2 (Some row) k) (λ e. omega arith) (λ _. tt))
      (cond_both (ltb (row + 1) rows) (Some (row + 1)) None (λ r. Meets 3 r (step (plain columns) Ahead column))
      (λ e. cond_both (ltb (column + 1) columns) (Some (column + 1)) None (λ k. Meets 3 (Some (row + 1)) k) (λ f. omega (arith, below row columns)) (λ _. tt)) (λ _. tt))
      (cond_both (ltb (row + 1) rows) (Some (row + 1)) None (λ r. Meets 4 r (Some column)) (λ e. omega (arith, below row columns)) (λ _. tt))
      (cond_both (ltb (row + 1) rows) (Some (row + 1)) None (λ r. Meets 5 r (step (plain columns) Back column))
      (λ e. cond_both (ltb 0 column) (Some (column - 1)) None (λ k. Meets 5 (Some (row + 1)) k) (λ f. omega (arith, below row columns, ltb-true 0 column f)) (λ _. tt)) (λ _. tt))
      (cond_both (ltb 0 column) (Some (column - 1)) None (λ k. Meets 6 (Some row) k) (λ e. omega (arith, ltb-true 0 column e)) (λ _. tt))
      (cond_both (ltb 0 row) (Some (row - 1)) None (λ r. Meets 7 r (step (plain columns) Back column))
      (λ e. cond_both (ltb 0 column) (Some (column - 1)) None (λ k. Meets 7 (Some (row - 1)) k) (λ f. omega (arith, above row columns (ltb-true 0 row e), ltb-true 0 column f)) (λ _. tt)) (λ _. tt))

  meets_both : (d t : ℕ) (a b : Option ℕ) → Meets d a b → both columns a b ≡ Some t → t ≡ beside columns (row * columns + column) d
  meets_both d t None b m h = let z : ◌≡◌ {A = ℕ} 0 1 = cc in absurd (omega arith)
  meets_both d t (Some r) None m h = let z : ◌≡◌ {A = ℕ} 0 1 = cc in absurd (omega arith)
  meets_both d t (Some r) (Some k) m h = let e : r * columns + k ≡ t = cc in sym (m ∙ e)

  -- the neighbour of a square inside
  inner : (d : ℕ) → row < rows → column < columns
      → neighbour (plain rows) (plain columns) row column d ≡ both columns (step (plain rows) (down d) row) (step (plain columns) (across d) column)
  inner d lr lc = cond-true (ltb row rows && ltb column columns) _ None (and_from _ _ (lt-ltb row rows lr) (lt-ltb column columns lc))

-- a step leads inside
step-below : (n : ℕ) (to : Step) (x y : ℕ) → x < n → step (plain n) to x ≡ Some y → y < n
step-below n Stay x y l h = let e : x ≡ y = cc in omega arith
step-below n Ahead x y l h = go (ltb (x + 1) n) refl h
  where
    go : (b : Bool) → ltb (x + 1) n ≡ b → cond b (Some (x + 1)) None ≡ Some y → y < n
    go true e k = let q : x + 1 ≡ y = cc in omega (arith, ltb-true (x + 1) n e)
    go false e k = let z : ◌≡◌ {A = ℕ} 0 1 = cc in absurd (omega arith)
step-below n Back x y l h = go (ltb 0 x) refl h
  where
    go : (b : Bool) → ltb 0 x ≡ b → cond b (Some (x - 1)) None ≡ Some y → y < n
    go true e k = let q : x - 1 ≡ y = cc in omega arith
    go false e k = let z : ◌≡◌ {A = ℕ} 0 1 = cc in absurd (omega arith)

module _ (rows columns : ℕ) (plan : Ranks) (law : plans.Lawful plan) where
  kind_both : (own : ℕ) (a b : Option ℕ) → ((c : ℕ) → b ≡ Some c → c < columns)
      → kind_by (plain_drawing rows columns plan) own (both columns a b) ≡ kind_at plan own a b
  kind_both own None b inside = refl
  kind_both own (Some r) None inside = refl
  kind_both own (Some r) (Some c) inside = ap (compared own) ((lays_out rows columns plan law).rank r c (inside c refl))

  -- the kind that the code finds by row and column
  pub kind_here : (row column d : ℕ) → row < rows → column < columns
      → kind_of (plain_drawing rows columns plan) (row * columns + column) d
      ≡ kind_at plan (plan.rank row column) (step (plain rows) (down d) row) (step (plain columns) (across d) column)
  kind_here row column d lr lc =
      let laid = lays_out rows columns plan law in
      ap₂ (kind_by (plain_drawing rows columns plan)) (laid.rank row column lc) (laid.near row column d lc ∙ inner rows columns row column d lr lc)
      ∙ kind_both (plan.rank row column) (step (plain rows) (down d) row) (step (plain columns) (across d) column) (λ c h. step-below columns (across d) column c lc h)

  -- a neighbour lies at the place beside
  pub near_beside : (s d t : ℕ) → s < rows * columns → d < 8 → (plain_drawing rows columns plan).near s d ≡ Some t → t ≡ beside columns s d
  near_beside s d t l ld h =
      let wide : 0 < columns = wide_enough columns l in
      let row = s / columns in
      let column = s % columns in
      let is : row * columns + column ≡ s = div-add-mod' s columns in
      meets_both rows columns row column d t (step (plain rows) (down d) row) (step (plain columns) (across d) column) (meets rows columns row column d ld)
      (sym (inner rows columns row column d (div_below s columns rows wide l) (mod_below s columns wide)) ∙ h)
      ∙ ap (λ x. beside columns x d) is
    where
      wide_enough : (w : ℕ) → s < rows * w → 0 < w
      wide_enough zero k = absurd (omega (arith, mul-zero rows))
      wide_enough (suc w) k = omega arith

-- the lower or the higher neighbour by its kind
lower_kept : (own rank t : ℕ) → cond (ltb rank own) (Some t) None ≡ lower_place (compared own rank) t
lower_kept own rank t = go (ltb rank own) (ltb own rank)
  where
    go : (x y : Bool) → cond x (Some t) None ≡ lower_place (cond x Lower (cond y Higher Neither)) t
    go true y = refl
    go false true = refl
    go false false = refl

higher_kept : (own rank t : ℕ) → cond (ltb own rank) (Some t) None ≡ higher_place (compared own rank) t
higher_kept own rank t = go (ltb rank own) (ltb own rank) refl refl
  where
    go : (x y : Bool) → ltb rank own ≡ x → ltb own rank ≡ y → cond y (Some t) None ≡ higher_place (cond x Lower (cond y Higher Neither)) t
    go true true e f = absurd (omega (arith, ltb-true rank own e, ltb-true own rank f))
    go true false e f = refl
    go false true e f = refl
    go false false e f = refl

module _ (squares : Neighbourhood) (s d place : ℕ) where
  lower_by : (o : Option ℕ) → ((t : ℕ) → o ≡ Some t → t ≡ place)
      → keep (λ t. ltb (squares.rank t) (squares.rank s)) o ≡ lower_place (kind_by squares (squares.rank s) o) place
  lower_by None at = refl
  lower_by (Some t) at = lower_kept (squares.rank s) (squares.rank t) t ∙ ap (lower_place (compared (squares.rank s) (squares.rank t))) (at t refl)

  higher_by : (o : Option ℕ) → ((t : ℕ) → o ≡ Some t → t ≡ place)
      → keep (λ t. ltb (squares.rank s) (squares.rank t)) o ≡ higher_place (kind_by squares (squares.rank s) o) place
  higher_by None at = refl
  higher_by (Some t) at = higher_kept (squares.rank s) (squares.rank t) t ∙ ap (higher_place (compared (squares.rank s) (squares.rank t))) (at t refl)

module _ (rows columns : ℕ) (plan : Ranks) (law : plans.Lawful plan) (s : ℕ) (inside : s < rows * columns) (ks : List Kind)
    (kinds : (d : ℕ) → d < 8 → get_or ks d Neither ≡ kind_of (plain_drawing rows columns plan) s d) where
  pub lower-told : (d : ℕ) → d < 8 → lower (plain_drawing rows columns plan) s d ≡ lower_place (get_or ks d Neither) (beside columns s d)
  unfolding lower
  lower-told d ld =
      lower_by (plain_drawing rows columns plan) s d (beside columns s d) ((plain_drawing rows columns plan).near s d) (λ t h. near_beside rows columns plan law s d t inside ld h)
      ∙ ap (λ k. lower_place k (beside columns s d)) (sym (kinds d ld))

  pub higher-told : (d : ℕ) → d < 8 → higher (plain_drawing rows columns plan) s d ≡ higher_place (get_or ks d Neither) (beside columns s d)
  unfolding higher
  higher-told d ld =
      higher_by (plain_drawing rows columns plan) s d (beside columns s d) ((plain_drawing rows columns plan).near s d) (λ t h. near_beside rows columns plan law s d t inside ld h)
      ∙ ap (λ k. higher_place k (beside columns s d)) (sym (kinds d ld))

  weight_kind : (k : Kind) (t n : ℕ) → kind_weight k n ≡ cond (is_some (higher_place k t)) (weight n) 0
  weight_kind Neither t n = refl
  weight_kind Lower t n = refl
  weight_kind Higher t n = refl

  last_kind : (k : Kind) (t n before : ℕ) → kind_last k n before ≡ cond (is_some (higher_place k t)) n before
  last_kind Neither t n before = refl
  last_kind Lower t n before = refl
  last_kind Higher t n before = refl

  pub weights-told : (n : ℕ) → n ≤ 8 → kinds_weight ks n ≡ weights (plain_drawing rows columns plan) s n
  unfolding kinds_weight weights
  weights-told zero l = refl
  weights-told (suc n) l =
      ap₂ ◌+◌ (weights-told n (omega arith))
      (weight_kind (get_or ks n Neither) (beside columns s n) n ∙ ap (λ o. cond (is_some o) (weight n) 0) (sym (higher-told n (omega arith))))

  pub last-told : (n : ℕ) → n ≤ 8 → kinds_last ks n ≡ last (plain_drawing rows columns plan) s n
  unfolding kinds_last last
  last-told zero l = refl
  last-told (suc n) l =
      last_kind (get_or ks n Neither) (beside columns s n) n (kinds_last ks n)
      ∙ ap₂ (λ o before. cond (is_some o) n before) (sym (higher-told n (omega arith))) (last-told n (omega arith))

  -- a lower neighbour, where the kind says so and only there
  pub lower_some : (d : ℕ) → d < 8 → get_or ks d Neither ≡ Lower → lower (plain_drawing rows columns plan) s d ≡ Some (beside columns s d)
  lower_some d ld is = lower-told d ld ∙ ap (λ k. lower_place k (beside columns s d)) is

  pub lower_not : (d : ℕ) → d < 8 → (get_or ks d Neither ≡ Lower → ⊥) → lower (plain_drawing rows columns plan) s d ≡ None
  lower_not d ld other = lower-told d ld ∙ none (get_or ks d Neither) other
    where
      none : (k : Kind) → (k ≡ Lower → ⊥) → lower_place k (beside columns s d) ≡ None
      none Neither h = refl
      none Lower h = absurd (h refl)
      none Higher h = refl

  -- the same for a higher one
  pub higher_some : (d : ℕ) → d < 8 → get_or ks d Neither ≡ Higher → higher (plain_drawing rows columns plan) s d ≡ Some (beside columns s d)
  higher_some d ld is = higher-told d ld ∙ ap (λ k. higher_place k (beside columns s d)) is

  pub higher_not : (d : ℕ) → d < 8 → (get_or ks d Neither ≡ Higher → ⊥) → higher (plain_drawing rows columns plan) s d ≡ None
  higher_not d ld other = higher-told d ld ∙ none (get_or ks d Neither) other
    where
      none : (k : Kind) → (k ≡ Higher → ⊥) → higher_place k (beside columns s d) ≡ None
      none Neither h = refl
      none Lower h = refl
      none Higher h = absurd (h refl)

  -- each lies inside
  pub lower-inside : (d : ℕ) → d < 8 → get_or ks d Neither ≡ Lower → beside columns s d < rows * columns
  lower-inside d ld is = lower-within (plain_drawing rows columns plan) (lays_out rows columns plan law).laws s d (beside columns s d) inside ld (lower_some d ld is)

  pub higher-inside : (d : ℕ) → d < 8 → get_or ks d Neither ≡ Higher → beside columns s d < rows * columns
  higher-inside d ld is = higher-within (plain_drawing rows columns plan) (lays_out rows columns plan law).laws s d (beside columns s d) inside ld (higher_some d ld is)
