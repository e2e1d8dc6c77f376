-- A row in steps of a whole column period: the columns between have other ranks, and inner squares have the same pattern.
use Rattle.std.proofs.Common.{◌≡◌, ℕ, ◌+◌, ◌-◌, ◌*◌, ◌%◌, ◌<◌, ◌≤◌, ltb, get_or, min, Some, None, Option, MatchOption, ◌≢◌, sym, refl, ap, ◌∙◌, subst, ap₂, inl, inr, mod-eq_of_lt, mul_comm, arith}
use native.Mathlib.Nat.{mod-le, mod-add-mod, mod-eq-sub-mod, add-mod_right}
use Rattle.std.proofs.lemmas.Nat.{mul-add-lt, mod_below}
use Rattle.std.proofs.lemmas.Bool.{cond-true, lt-ltb, cases_lt, cases_order}
use Rattle.tone.specs.Algebra.{Algebra}
use Rattle.plan.specs.Ranks.{Ranks}
use Rattle.plan.specs.Ranks as plans
use Rattle.quantiser.specs.Tables.{Tables}
use Rattle.grid.specs.Directions.{down, across}
use Rattle.grid.specs.Lines.{plain, step}
use Rattle.grid.specs.declared.direction.Step.{Step}
use Rattle.grid.specs.declared.direction.Step.TheVariants.{Back, Stay, Ahead}
use Rattle.diffusion.specs.Bands.{Bands}
use Rattle.diffusion.specs.Draft.{Setting}
use Rattle.diffusion.specs.Drawings.{plain_drawing, setting_of}
use Rattle.diffusion.specs.Neighbourhoods.{Neighbourhood}
use Rattle.diffusion.proofs.Lines.{lays_out}
use Rattle.job.specs.Patterns.{compared, kind_of, kind_at, PatternOf}
use Rattle.job.specs.Periods.{First, FirstAt, Lone, Between}
use Rattle.job.specs.Progress.{progress, visited, passed_from}
use Rattle.job.specs.declared.kind.Kind.TheVariants.{Neither}
use Rattle.job.specs.declared.pattern.Pattern.{Pattern}
use Rattle.job.proofs.Around.{kind_here, weights-told, last-told}
use Rattle.job.proofs.Passes.{from_none, from_more, from_quiet}

-- columns less than a period apart differ modulo the period
differ : (q a c : ℕ) → 1 ≤ q → a < c → c < a + q → c % q ≡ a % q → ⊥
differ q a c some low high e =
    let d = c - a in
    let r = a % q in
    let below : r < q = mod_below a q some in
    let far : a + (c - a) ≡ c = omega arith in
    let turned : (r + d) % q ≡ r = mod-add-mod a q d ∙ ap (λ n. n % q) far ∙ e in
    elim (cases_lt (r + d) q) [
      | inl h ↦ let plain : r + d ≡ r = sym (mod-eq_of_lt h) ∙ turned in omega arith
      | inr h ↦
          let short : r + d - q < q = omega arith in
          let plain : r + d - q ≡ r = sym (mod-eq_of_lt short) ∙ sym (mod-eq-sub-mod h) ∙ turned in
          omega arith
    ]

-- one step from a number that is at no end
abbrev stepped : Step → ℕ → ℕ
stepped Back x = x - 1
stepped Stay x = x
stepped Ahead x = x + 1

step_inner : (n : ℕ) (to : Step) (x : ℕ) → 1 ≤ x → x + 1 < n → step (plain n) to x ≡ Some (stepped to x)
step_inner n Back x low high = cond-true (ltb 0 x) _ _ (lt-ltb 0 x low)
step_inner n Stay x low high = refl
step_inner n Ahead x low high = cond-true (ltb (x + 1) n) _ _ (lt-ltb (x + 1) n high)

-- steps from numbers that are equal modulo q lead to such numbers
before_modulo : (q a : ℕ) → 1 ≤ q → 1 ≤ a → (a - 1) % q ≡ (a % q + (q - 1)) % q
before_modulo q a some low =
    let whole : a - 1 + q ≡ a + (q - 1) = omega arith in
    sym (add-mod_right (a - 1) q) ∙ ap (λ n. n % q) whole ∙ sym (mod-add-mod a q (q - 1))

stepped_modulo : (q : ℕ) (to : Step) (a b : ℕ) → 1 ≤ q → 1 ≤ a → 1 ≤ b → a % q ≡ b % q → stepped to a % q ≡ stepped to b % q
stepped_modulo q Back a b some la lb e = before_modulo q a some la ∙ ap (λ r. (r + (q - 1)) % q) e ∙ sym (before_modulo q b some lb)
stepped_modulo q Stay a b some la lb e = e
stepped_modulo q Ahead a b some la lb e = sym (mod-add-mod a q 1) ∙ ap (λ r. (r + 1) % q) e ∙ mod-add-mod b q 1

module _ (plan : Ranks) (law : plans.Lawful plan) where
  abbrev some : 1 ≤ plan.column_period
  some = let least = law.column_period.least in omega arith

  -- columns that are equal modulo the period have the same ranks
  pub same_rank : (row a b : ℕ) → a % plan.column_period ≡ b % plan.column_period → plan.rank row a ≡ plan.rank row b
  same_rank row a b e = law.repeats row a ∙ ap (plan.rank (row % plan.row_period)) e ∙ sym (law.repeats row b)

  within_period : (k : ℕ) → k % plan.column_period < plan.column_period
  within_period k = mod_below k plan.column_period some

  reduced_rank : (row k : ℕ) → plan.rank row (k % plan.column_period) ≡ plan.rank row k
  reduced_rank row k = same_rank row (k % plan.column_period) k (mod-eq_of_lt (within_period k))

  module _ (rank row : ℕ) where
    -- what a search of one period finds, as far as it lies in the drawing
    pub first_found : (columns many : ℕ) → many ≡ min plan.column_period columns → (first : Option ℕ)
        → MatchOption first ((k : ℕ) → 0 ≤ k → k < many → plan.rank row k ≢ rank)
        (λ i. (0 ≤ i) × (i < many) × (plan.rank row i ≡ rank) × ((k : ℕ) → 0 ≤ k → k < i → plan.rank row k ≢ rank)) → First columns plan rank row first
    first_found columns many least None h = λ k inside is.
        let m = k % plan.column_period in
        let below : m ≤ k = mod-le k plan.column_period in
        let within = within_period k in
        h m (omega arith) (omega (arith, least)) (reduced_rank row k ∙ is)
    first_found columns many least (Some first) h = record { inside = omega (arith, least, h.1); within = omega (arith, least, h.1); has = h.2; before = λ k. h.3 k (omega arith) }

    -- rows that are equal modulo the row period have the same first column
    pub first_same : (columns other : ℕ) (first : Option ℕ) → other % plan.row_period ≡ row % plan.row_period → First columns plan rank other first → First columns plan rank row first
    first_same columns other first same = by first
      where
        ranks : (c : ℕ) → plan.rank other c ≡ plan.rank row c
        ranks c = law.repeats other c ∙ ap (λ r. plan.rank r (c % plan.column_period)) same ∙ sym (law.repeats row c)

        by : (first : Option ℕ) → First columns plan rank other first → First columns plan rank row first
        by None at = λ k inside is. at k inside (ranks k ∙ is)
        by (Some first) at = record { inside = at.inside; within = at.within; has = sym (ranks first) ∙ at.has; before = λ k l is. at.before k l (ranks k ∙ is) }

    -- a first column that is the only one of its period
    pub lone : (columns first : ℕ) → FirstAt columns plan rank row first → ((k : ℕ) → first < k → k < plan.column_period → plan.rank row k ≡ rank → ⊥) → Lone plan rank row first
    lone columns first at others = record {
      within = at.within;
      has = at.has;
      only = λ column is.
          let m = column % plan.column_period in
          let here : plan.rank row m ≡ rank = reduced_rank row column ∙ is in
          elim (cases_order m first) [
            | inl same ↦ same
            | inr (inl l) ↦ absurd (at.before m l here)
            | inr (inr l) ↦ absurd (others m l (within_period column) here)
          ];
    }

-- what lies in a row beside two squares of equal rank, at columns with the same ranks, or nothing where there is no such row
alike : (plan : Ranks) (r : Option ℕ) (a b : ℕ) → a ≡ b → (j k : ℕ) → ((row : ℕ) → plan.rank row j ≡ plan.rank row k) → kind_at plan a r (Some j) ≡ kind_at plan b r (Some k)
alike plan None a b own j k same = refl
alike plan (Some row) a b own j k same = ap₂ compared own (same row)

module _ (rows columns : ℕ) (plan : Ranks) (law : plans.Lawful plan) (row from to : ℕ) (inside : row < rows) (at : Between columns from to) (on : from ≤ to)
    (periods : to % plan.column_period ≡ from % plan.column_period) where
  same_kind : (d : ℕ) → kind_of (plain_drawing rows columns plan) (row * columns + from) d ≡ kind_of (plain_drawing rows columns plan) (row * columns + to) d
  same_kind d =
      let before = at.before in
      let behind = at.behind in
      let own : plan.rank row from ≡ plan.rank row to = same_rank plan law row from to (sym periods) in
      let other : (r : ℕ) → plan.rank r (stepped (across d) from) ≡ plan.rank r (stepped (across d) to)
      = λ r. same_rank plan law r (stepped (across d) from) (stepped (across d) to)
      (stepped_modulo plan.column_period (across d) from to (some plan law) before (omega arith) (sym periods)) in
      let r = step (plain rows) (down d) row in
      kind_here rows columns plan law row from d inside (omega arith)
      ∙ ap (kind_at plan (plan.rank row from) r) (step_inner columns (across d) from before (omega arith))
      ∙ alike plan r (plan.rank row from) (plan.rank row to) own (stepped (across d) from) (stepped (across d) to) other
      ∙ sym (kind_here rows columns plan law row to d inside (omega arith)
      ∙ ap (kind_at plan (plan.rank row to) r) (step_inner columns (across d) to (omega arith) behind))

  -- squares of a row that lie whole periods apart, between its ends, have the same pattern
  pub same_pattern : (p : Pattern) → PatternOf (plain_drawing rows columns plan) (row * columns + from) p → PatternOf (plain_drawing rows columns plan) (row * columns + to) p
  same_pattern p known =
      let behind = at.behind in
      let placed : (c : ℕ) → c < columns → row * columns + c < rows * columns
      = λ c lc. let m = mul-add-lt row columns c rows inside lc in omega (arith, mul_comm rows columns) in
      let kinds : (d : ℕ) → d < 8 → get_or p.kinds d Neither ≡ kind_of (plain_drawing rows columns plan) (row * columns + to) d = λ d ld. known.kinds d ld ∙ same_kind d in
      let here = known.inside in
      let there = placed to (omega arith) in
      record {
        inside = there;
        kinds = kinds;
        weights = known.weights ∙ sym (weights-told rows columns plan law (row * columns + from) here p.kinds known.kinds 8 (omega arith))
            ∙ weights-told rows columns plan law (row * columns + to) there p.kinds kinds 8 (omega arith);
        last = known.last ∙ sym (last-told rows columns plan law (row * columns + from) here p.kinds known.kinds 8 (omega arith))
            ∙ last-told rows columns plan law (row * columns + to) there p.kinds kinds 8 (omega arith);
      }

-- the pattern of a place, by equal terms for both
pub same_place : (squares : Neighbourhood) (s t : ℕ) (p r : Pattern) → t ≡ s → r ≡ p → PatternOf squares s p → PatternOf squares t r
same_place squares s t p r place pattern known = subst (λ k. PatternOf squares k r) (sym place) (subst (PatternOf squares s) (sym pattern) known)

module _ {T : Type 0} (tone : Algebra T) (rows columns : ℕ) (plan : Ranks) (law : plans.Lawful plan) (tables : Tables T) (drawing : ℕ → T) (rank row : ℕ) (start : Bands T) where
  abbrev setting : Setting T
  setting = setting_of tone rows columns plan tables drawing

  place_rank : (k : ℕ) → k < columns → (plain_drawing rows columns plan).rank (row * columns + k) ≡ plan.rank row k
  place_rank k l = (lays_out rows columns plan law).rank row k l

  -- a row without the rank is passed over
  pub row_lacks : ((column : ℕ) → column < columns → plan.rank row column ≢ rank) → progress 0 start ≡ passed_from setting rank (row * columns) columns start
  row_lacks lacks =
      let whole : 0 + columns ≡ columns = omega arith in
      from_quiet setting rank (row * columns) 0 columns 0 start start (sym (from_none setting rank (row * columns) start))
      (λ m low high is. lacks m (omega arith) (sym (place_rank m (omega arith)) ∙ is))
      ∙ ap (λ n. passed_from setting rank (row * columns) n start) whole

  -- what the steps keep: the row is passed up to each column less than a period before the next step
  abbrev pub Strided : ℕ → ℕ → Bands T → Type 0
  Strided column count bands =
      (n : ℕ) → n ≤ column → column < n + plan.column_period → n ≤ columns → progress count bands ≡ passed_from setting rank (row * columns) n start

  module _ (first : ℕ) (at : Lone plan rank row first) where
    pub stride_none : Strided first 0 start
    stride_none n low high short =
        let within = at.within in
        let whole : 0 + n ≡ n = omega arith in
        from_quiet setting rank (row * columns) 0 n 0 start start (sym (from_none setting rank (row * columns) start))
        (λ m from to is.
        let small : m < plan.column_period = omega arith in
        let same : m ≡ first = sym (mod-eq_of_lt small) ∙ at.only m (sym (place_rank m (omega arith)) ∙ is) in
        omega arith)
        ∙ ap (λ k. passed_from setting rank (row * columns) k start) whole

    -- one step more
    pub stride_more : (column count more : ℕ) (before after : Bands T) → column < columns → column % plan.column_period ≡ first → Strided column count before
        → progress more after ≡ visited setting ((plain_drawing rows columns plan).rank (row * columns + column)) (row * columns + column) before
        → Strided (column + plan.column_period) (count + more) after
    stride_more column count more before after inside on so did n low high short =
        let q = plan.column_period in
        let least : 1 ≤ q = some plan law in
        let a = row * columns in
        let own : (plain_drawing rows columns plan).rank (a + column) ≡ rank
        = place_rank column inside ∙ same_rank plan law row column first (on ∙ sym (mod-eq_of_lt at.within)) ∙ at.has in
        let one = from_more setting rank a column count more start before after (so column (omega arith) (omega arith) (omega arith))
        (did ∙ ap (λ r. visited setting r (a + column) before) own) in
        let whole : column + 1 + (n - (column + 1)) ≡ n = omega arith in
        from_quiet setting rank a (column + 1) (n - (column + 1)) (count + more) start after one
        (λ m from to is. differ q column m least (omega arith) (omega arith) (at.only m (sym (place_rank m (omega arith)) ∙ is) ∙ sym on))
        ∙ ap (λ k. passed_from setting rank a k start) whole
