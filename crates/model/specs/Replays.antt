-- Resume with no memory of its own: the record's codes stand in the code band and the drawing in the amounts, and the squares are worked
-- again, rank by rank and each rank in reading order. Nothing is left where a chosen code is another than the one written.
use Rattle.std.specs.Prelude.{ℕ, zero, suc, cond, ◌&&◌, List, map, get_or, Some, None, Option, ◌==◌, slice_index_or, slice_set}
use Rattle.std.specs.List.{range_with_len}
use Rattle.diffusion.specs.Bands.{spread, standing}
use Rattle.diffusion.specs.Draft.{Setting, sends, left}
use Rattle.model.specs.Records.{stands, code_in}

-- the codes of a record as a code band of n squares: 255 for each place that does not stand
abbrev pub codes_in : ℕ → List ℕ → List ℕ
codes_in n rec = map (λ s. cond (stands rec s) (code_in n rec s) 255) (range_with_len 0 n)

-- the amount x at s gives way to the error that it leaves, and the parts go to the higher neighbours
abbrev pub settle : {T : Type 0} → Setting T → ℕ → T → List T → List T
settle j s x xs = spread j.algebra j.squares s (sends j.algebra j.squares s (left j x)) 8 (slice_set xs s (left j x))

module _ {T : Type 0} (j : Setting T) (cs : List ℕ) where
  -- the square at s, if its amount is given the code that is written
  abbrev pub replay_at : ℕ → List T → Option (List T)
  replay_at s xs = let x = get_or xs s j.algebra.zero in cond (j.tables.choice x == slice_index_or cs s 255) (Some (settle j s x xs)) None

  -- the place s, when it is the turn of rank r
  abbrev pub replay_visit : ℕ → ℕ → Option (List T) → Option (List T)
  replay_visit r s None = None
  replay_visit r s (Some xs) = cond (j.squares.rank s == r && standing cs s) (replay_at s xs) (Some xs)

  -- rank r, the places below n
  unfoldable pub replay_sweep : ℕ → Option (List T) → ℕ → Option (List T)
  replay_sweep r o zero = o
  replay_sweep r o (suc n) = replay_visit r n (replay_sweep r o n)

  -- the ranks below r
  unfoldable pub replay : Option (List T) → ℕ → Option (List T)
  replay o zero = o
  replay o (suc r) = replay_sweep r (replay o r) j.squares.count
