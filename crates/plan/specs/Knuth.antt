-- The plan that Knuth printed: periods 8, top 63, and the ranks row by row.
use Rattle.std.specs.Prelude.{ℕ, ◌%◌, List, [], ◌∷◌, slice_index, slice_index_or}
use Rattle.plan.specs.Ranks.{Ranks}

unfoldable pub knuth_rows : List (List ℕ)
knuth_rows =
    (34 ∷ 48 ∷ 40 ∷ 32 ∷ 29 ∷ 15 ∷ 23 ∷ 31 ∷ [])
    ∷ (42 ∷ 58 ∷ 56 ∷ 53 ∷ 21 ∷ 5 ∷ 7 ∷ 10 ∷ [])
    ∷ (50 ∷ 62 ∷ 61 ∷ 45 ∷ 13 ∷ 1 ∷ 2 ∷ 18 ∷ [])
    ∷ (38 ∷ 46 ∷ 54 ∷ 37 ∷ 25 ∷ 17 ∷ 9 ∷ 26 ∷ [])
    ∷ (28 ∷ 14 ∷ 22 ∷ 30 ∷ 35 ∷ 49 ∷ 41 ∷ 33 ∷ [])
    ∷ (20 ∷ 4 ∷ 6 ∷ 11 ∷ 43 ∷ 59 ∷ 57 ∷ 52 ∷ [])
    ∷ (12 ∷ 0 ∷ 3 ∷ 19 ∷ 51 ∷ 63 ∷ 60 ∷ 44 ∷ [])
    ∷ (24 ∷ 16 ∷ 8 ∷ 27 ∷ 39 ∷ 47 ∷ 55 ∷ 36 ∷ [])
    ∷ []

abbrev pub knuth_rank : ℕ → ℕ → ℕ
knuth_rank r c = slice_index (slice_index_or knuth_rows (r % 8) []) (c % 8)

abbrev pub knuth_plan : Ranks
knuth_plan = record { row_period = 8; column_period = 8; top = 63; rank = knuth_rank }
