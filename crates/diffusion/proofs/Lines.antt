-- A drawing under a plan keeps the laws of a neighbourhood: once for any two lines whose steps stay within and turn round, and then for
-- plain rows and columns.
use Rattle.std.proofs.Common.{◌≡◌, ℕ, suc, ◌+◌, ◌-◌, ◌*◌, ◌/◌, ◌%◌, ◌<◌, ◌≤◌, Bool, true, false, cond, ◌&&◌, ltb, Some, None, Option, sym, refl, ap, ◌∙◌, ap₂, mul-zero, arith}
use Rattle.std.proofs.lemmas.Bool.{cond-true, lt-ltb, ltb-true, and_from}
use Rattle.std.proofs.lemmas.Nat.{div-add-mod', mul-add-lt, div-mul-add, mod-mul-add, div_below, mod_below}
use Rattle.tone.specs.Algebra.{Algebra}
use Rattle.tone.specs.Algebra as tones
use Rattle.plan.specs.Ranks.{Ranks, Touch}
use Rattle.plan.specs.Ranks as plans
use Rattle.quantiser.specs.Tables.{Tables, Sound}
use Rattle.grid.specs.declared.direction.Step.{Step}
use Rattle.grid.specs.declared.direction.Step.TheVariants.{Back, Stay, Ahead}
use Rattle.grid.specs.Directions.{opposite, down, across}
use Rattle.grid.specs.Lines.{Line, plain, step}
use Rattle.grid.specs.Neighbours.{both, neighbour}
use Rattle.diffusion.specs.Neighbourhoods.{Laws}
use Rattle.diffusion.specs.Drawings.{laid_out}
use Rattle.diffusion.specs.Theorems.{LaysOut, LawfulDrawing}

-- each of eight directions
pub by_eight : (P : ℕ → Type 0) → P 0 → P 1 → P 2 → P 3 → P 4 → P 5 → P 6 → P 7 → (d : ℕ) → d < 8 → P d
by_eight P a b c d e f g h ℕ.zero l = a
by_eight P a b c d e f g h (suc ℕ.zero) l = b
by_eight P a b c d e f g h (suc (suc ℕ.zero)) l = c
by_eight P a b c d e f g h (suc (suc (suc ℕ.zero))) l = d
by_eight P a b c d e f g h (suc (suc (suc (suc ℕ.zero)))) l = e
by_eight P a b c d e f g h (suc (suc (suc (suc (suc ℕ.zero))))) l = f
by_eight P a b c d e f g h (suc (suc (suc (suc (suc (suc ℕ.zero)))))) l = g
by_eight P a b c d e f g h (suc (suc (suc (suc (suc (suc (suc ℕ.zero))))))) l = h
by_eight P a b c d e f g h (suc (suc (suc (suc (suc (suc (suc (suc n)))))))) l = absurd (omega arith)

abbrev turned : Step → Step
turned Stay = Stay
turned Ahead = Back
turned Back = Ahead

down-opposite : (d : ℕ) → d < 8 → down (opposite d) ≡ turned (down d)
down-opposite = by_eight (λ d. down (opposite d) ≡ turned (down d)) refl refl refl refl refl refl refl refl

across-opposite : (d : ℕ) → d < 8 → across (opposite d) ≡ turned (across d)
across-opposite = by_eight (λ d. across (opposite d) ≡ turned (across d)) refl refl refl refl refl refl refl refl

-- moves Stay within, and turn round
record LineLaws (line : Line) : Type 0 where
  pub within : (m : Step) (x y : ℕ) → x < line.size → step line m x ≡ Some y → y < line.size
  pub turns : (m : Step) (x y : ℕ) → x < line.size → step line m x ≡ Some y → step line (turned m) y ≡ Some x

-- the row and the column of a neighbour
both_some : (w : ℕ) (a b : Option ℕ) (t : ℕ) → both w a b ≡ Some t → (r : ℕ) × (c : ℕ) × (a ≡ Some r) × (b ≡ Some c) × (t ≡ r * w + c)
both_some w None b t h = let z : ◌≡◌ {A = ℕ} 0 1 = cc in absurd (omega arith)
both_some w (Some r) None t h = let z : ◌≡◌ {A = ℕ} 0 1 = cc in absurd (omega arith)
both_some w (Some r) (Some c) t h = (r, c, refl, refl, cc)

pub wide_enough : (h w s : ℕ) → s < h * w → 0 < w
wide_enough h ℕ.zero s l = absurd (omega (arith, mul-zero h))
wide_enough h (suc w) s l = omega arith

module _ (rows columns : Line) where
  -- of a square inside the drawing
  inner : (r c d : ℕ) → r < rows.size → c < columns.size
      → neighbour rows columns r c d ≡ both columns.size (step rows (down d) r) (step columns (across d) c)
  inner r c d lr lc = cond-true (ltb r rows.size && ltb c columns.size) _ None (and_from _ _ (lt-ltb r rows.size lr) (lt-ltb c columns.size lc))

module _ (rows columns : Line) (rl : LineLaws rows) (cl : LineLaws columns) (plan : Ranks)
    (apart : (d r c r' c' : ℕ) → d < 8 → r < rows.size → c < columns.size → step rows (down d) r ≡ Some r' → step columns (across d) c ≡ Some c'
    → plan.rank r c ≡ plan.rank r' c' → ⊥) where
  -- a neighbour t of s in the direction d, by rows and columns
  record Reached (s d t : ℕ) : Type 0 where
    row : ℕ
    column : ℕ
    by_row : step rows (down d) (s / columns.size) ≡ Some row
    by_column : step columns (across d) (s % columns.size) ≡ Some column
    from_row : s / columns.size < rows.size
    from_column : s % columns.size < columns.size
    to_row : row < rows.size
    to_column : column < columns.size
    place : t ≡ row * columns.size + column
    row_is : t / columns.size ≡ row
    column_is : t % columns.size ≡ column

  reached : (s d t : ℕ) → s < (laid_out rows columns plan).count → (laid_out rows columns plan).near s d ≡ Some t → Reached s d t
  reached s d t l h =
      let w = columns.size in
      let wide : 0 < w = wide_enough rows.size w s l in
      let row : s / w < rows.size = div_below s w rows.size wide l in
      let column : s % w < w = mod_below s w wide in
      let k = both_some w (step rows (down d) (s / w)) (step columns (across d) (s % w)) t (sym (inner rows columns (s / w) (s % w) d row column) ∙ h) in
      let in_row = rl.within (down d) (s / w) k.0 row k.2 in
      let in-column = cl.within (across d) (s % w) k.1 column k.3 in
      record {
        row = k.0;
        column = k.1;
        by_row = k.2;
        by_column = k.3;
        from_row = row;
        from_column = column;
        to_row = in_row;
        to_column = in-column;
        place = k.4;
        row_is = ap (λ x. x / w) k.4 ∙ div-mul-add k.0 w k.1 in-column;
        column_is = ap (λ x. x % w) k.4 ∙ mod-mul-add k.0 w k.1 in-column;
      }

  laid_out_laws : Laws (laid_out rows columns plan)
  laid_out_laws = record {
    inside = λ s d t l ld h. let k = reached s d t l h in
        omega (arith, k.place, mul-add-lt k.row columns.size k.column rows.size k.to_row k.to_column);
    returns = λ s d t l ld h. let k = reached s d t l h in
        ap₂ (λ r c. neighbour rows columns r c (opposite d)) k.row_is k.column_is
        ∙ inner rows columns k.row k.column (opposite d) k.to_row k.to_column
        ∙ ap₂ (both columns.size)
        (ap (λ m. step rows m k.row) (down-opposite d ld) ∙ rl.turns (down d) (s / columns.size) k.row k.from_row k.by_row)
        (ap (λ m. step columns m k.column) (across-opposite d ld) ∙ cl.turns (across d) (s % columns.size) k.column k.from_column k.by_column)
        ∙ ap Some (div-add-mod' s columns.size);
    apart = λ s d t l ld h e. let k = reached s d t l h in
        apart d (s / columns.size) (s % columns.size) k.row k.column ld k.from_row k.from_column k.by_row k.by_column
        (e ∙ ap₂ plan.rank k.row_is k.column_is);
  }

-- a step between numbers of the line without ends
abbrev Stepped : Step → ℕ → ℕ → Type 0
Stepped Stay x y = y ≡ x
Stepped Ahead x y = y ≡ x + 1
Stepped Back x y = y + 1 ≡ x

stepped_turned : (m : Step) (x y : ℕ) → Stepped m x y → Stepped (turned m) y x
stepped_turned Stay x y h = sym h
stepped_turned Ahead x y h = sym h
stepped_turned Back x y h = sym h

some_of : (b : Bool) (u y : ℕ) → cond b (Some u) None ≡ Some y → (b ≡ true) × (u ≡ y)
some_of true u y h = (refl, cc)
some_of false u y h = let z : ◌≡◌ {A = ℕ} 0 1 = cc in absurd (omega arith)

plain_stepped : (n : ℕ) (m : Step) (x y : ℕ) → x < n → step (plain n) m x ≡ Some y → Stepped m x y × (y < n)
plain_stepped n Stay x y l h = let e : x ≡ y = cc in (sym e, omega arith)
plain_stepped n Ahead x y l h = let k = some_of (ltb (x + 1) n) (x + 1) y h in (sym k.1, omega (arith, k.1, ltb-true (x + 1) n k.0))
plain_stepped n Back x y l h =
    let k = some_of (ltb 0 x) (x - 1) y h in
    let some : 0 < x = ltb-true 0 x k.0 in
    (omega (arith, k.1), omega (arith, k.1))

stepped_plain : (n : ℕ) (m : Step) (x y : ℕ) → Stepped m x y → y < n → step (plain n) m x ≡ Some y
stepped_plain n Stay x y h l = ap Some (sym h)
stepped_plain n Ahead x y h l = cond-true (ltb (x + 1) n) (Some (x + 1)) None (lt-ltb (x + 1) n (omega arith)) ∙ ap Some (sym h)
stepped_plain n Back x y h l = cond-true (ltb 0 x) (Some (x - 1)) None (lt-ltb 0 x (omega arith)) ∙ ap Some (omega arith)

plain_laws : (n : ℕ) → LineLaws (plain n)
plain_laws n = record {
  within = λ m x y l h. (plain_stepped n m x y l h).1;
  turns = λ m x y l h. stepped_plain n (turned m) y x (stepped_turned m x y (plain_stepped n m x y l h).0) l;
}

-- a step in a direction leads to a square that touches
touching : (r c r' c' d : ℕ) → d < 8 → Stepped (down d) r r' → Stepped (across d) c c' → Touch r c r' c'
touching r c r' c' = by_eight (λ d. Stepped (down d) r r' → Stepped (across d) c c' → Touch r c r' c')
    (λ h k. touch (omega arith)) (λ h k. touch (omega arith)) (λ h k. touch (omega arith)) (λ h k. touch (omega arith))
    (λ h k. touch (omega arith)) (λ h k. touch (omega arith)) (λ h k. touch (omega arith)) (λ h k. touch (omega arith))
  where
    touch : (r ≤ r' + 1) × (r' ≤ r + 1) × (c ≤ c' + 1) × (c' ≤ c + 1) × (r ≡ r' → c ≡ c' → ⊥) → Touch r c r' c'
    touch k = record { rows = record { above = k.0; below = k.1 }; columns = record { above = k.2; below = k.3 }; other = k.4 }

pub lays_out : (rows columns : ℕ) (plan : Ranks) → plans.Lawful plan → LaysOut rows columns plan
lays_out rows columns plan lawful = record {
  laws = laid_out_laws (plain rows) (plain columns) (plain_laws rows) (plain_laws columns) plan (λ d r c r' c' ld lr lc hr hc.
      lawful.apart r c r' c' (touching r c r' c' d ld (plain_stepped rows (down d) r r' lr hr).0 (plain_stepped columns (across d) c c' lc hc).0));
  capped = λ s l. lawful.capped (s / columns) (s % columns);
  near = λ r c d l. ap₂ (λ x y. neighbour (plain rows) (plain columns) x y d) (div-mul-add r columns c l) (mod-mul-add r columns c l);
  rank = λ r c l. ap₂ plan.rank (div-mul-add r columns c l) (mod-mul-add r columns c l);
}

pub lawful_drawing : {T : Type 0} (tone : Algebra T) → tones.Lawful tone → (plan : Ranks) → plans.Lawful plan → (tables : Tables T) → Sound tone tables
    → LawfulDrawing tone plan tables
lawful_drawing tone tl plan pl tables sound = record {
  lawful = λ rows columns drawing. record { tone = tl; squares = (lays_out rows columns plan pl).laws; tables = sound };
  capped = λ rows columns drawing. (lays_out rows columns plan pl).capped;
}
