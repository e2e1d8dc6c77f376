-- A sweep of the ranks: rank by rank, and each rank in reading order, every square that is wanted, open and ready is fixed. First on a set
-- of squares, then on bands of any content.
use Rattle.std.specs.Prelude.{ℕ, zero, suc, ◌+◌, Bool, cond, not, ◌&&◌, ◌==◌}
use Rattle.diffusion.specs.Bands.{Bands, standing, fixed_in}
use Rattle.diffusion.specs.Draft.{Setting}
use Rattle.diffusion.specs.Neighbourhoods.{Neighbourhood}
use Rattle.diffusion.specs.Sets.{add, ready_by}

module _ (squares : Neighbourhood) (wanted : ℕ → Bool) where
  -- s is of rank r, wanted, open and ready
  abbrev pub due : ℕ → (ℕ → Bool) → ℕ → Bool
  due r F s = squares.rank s == r && (wanted s && (not (F s) && ready_by squares F s 8))

  abbrev pub visit : ℕ → (ℕ → Bool) → ℕ → ℕ → Bool
  visit r F s = cond (due r F s) (add F s) F

  -- one rank, the places below n
  unfoldable pub pass : ℕ → (ℕ → Bool) → ℕ → ℕ → Bool
  pass r F zero = F
  pass r F (suc n) = visit r (pass r F n) n

  -- how many that adds
  unfoldable pub passed : ℕ → (ℕ → Bool) → ℕ → ℕ
  passed r F zero = 0
  passed r F (suc n) = passed r F n + cond (due r (pass r F n) n) 1 0

  -- the ranks below r
  unfoldable pub sweep : (ℕ → Bool) → ℕ → ℕ → Bool
  sweep F zero = F
  sweep F (suc r) = pass r (sweep F r) squares.count

  unfoldable pub swept : (ℕ → Bool) → ℕ → ℕ
  swept F zero = 0
  swept F (suc r) = swept F r + passed r (sweep F r) squares.count

-- the same on bands, whose codes tell which squares are fixed
module _ {T : Type 0} (j : Setting T) (wanted : ℕ → Bool) where
  abbrev pub due_in : ℕ → Bands T → ℕ → Bool
  due_in r b s = due j.squares wanted r (standing b.codes) s

  abbrev pub visit_in : ℕ → Bands T → ℕ → Bands T
  visit_in r b s = cond (due_in r b s) (fixed_in j s b) b

  unfoldable pub pass_in : ℕ → Bands T → ℕ → Bands T
  pass_in r b zero = b
  pass_in r b (suc n) = visit_in r (pass_in r b n) n

  unfoldable pub passed_in : ℕ → Bands T → ℕ → ℕ
  passed_in r b zero = 0
  passed_in r b (suc n) = passed_in r b n + cond (due_in r (pass_in r b n) n) 1 0

  unfoldable pub sweep_in : Bands T → ℕ → Bands T
  sweep_in b zero = b
  sweep_in b (suc r) = pass_in r (sweep_in b r) j.squares.count

  unfoldable pub swept_in : Bands T → ℕ → ℕ
  swept_in b zero = 0
  swept_in b (suc r) = swept_in b r + passed_in r (sweep_in b r) j.squares.count
