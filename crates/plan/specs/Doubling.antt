-- The doubling plans, each worked out from the order below it.
use Rattle.std.specs.Prelude.{ℕ, zero, suc, ◌+◌, ◌-◌, ◌*◌, ◌/◌, ◌%◌, ◌^◌, [], ◌∷◌}
use Rattle.plan.specs.Ranks.{Ranks}
use Rattle.plan.specs.Table.{tabled}

-- order 1: 0 2 over 3 1
unfoldable pub corner_rank : ℕ → ℕ → ℕ
corner_rank = tabled 2 2 (0 ∷ 2 ∷ 3 ∷ 1 ∷ [])

-- order k + 1, with s = 2 ^ k: four times order k at the row and the column modulo s, and order 1 at their quotients by s, where the row
-- and the column are first reduced below 2 * s. There is no order 0.
unfoldable pub doubling : ℕ → ℕ → ℕ → ℕ
doubling zero r c = 0
doubling (suc zero) r c = corner_rank r c
doubling (suc (suc n)) r c =
    let s = 2 ^ suc n in
    4 * doubling (suc n) (r % s) (c % s) + corner_rank (r % (2 * s) / s) (c % (2 * s) / s)

abbrev pub doubling_plan : ℕ → Ranks
doubling_plan k = record { row_period = 2 ^ k; column_period = 2 ^ k; top = 4 ^ k - 1; rank = doubling k }
