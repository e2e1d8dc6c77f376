-- A plan whose ranks stand in a table, and when bytes make one.
use Rattle.std.specs.Prelude.{◌≡◌, ℕ, ◌+◌, ◌*◌, ◌%◌, ◌≤◌, Bool, not, ◌&&◌, ◌⊎◌, List, length, ◌==◌, slice_index}
use Rattle.plan.specs.Ranks.{Ranks, Period, Touch}

-- the rank at a row and a column, where p rows of q ranks stand one after the other and repeat
abbrev pub tabled : ℕ → ℕ → List ℕ → ℕ → ℕ → ℕ
tabled p q xs r c = slice_index xs ((r % p) * q + c % q)

-- periods in their limits, and room for a period's squares in n places
pub record Room (p q n : ℕ) : Type 0 where
  pub row_period : Period p
  pub column_period : Period q
  pub count : p * q ≤ n

-- a table tells 255 as its top, whatever its ranks
abbrev pub table_plan : ℕ → ℕ → List ℕ → Ranks
table_plan p q xs = record { row_period = p; column_period = q; top = 255; rank = tabled p q xs }

-- periods in their limits, and as many bytes as squares
pub record Sized (p q n : ℕ) : Type 0 where
  pub row_period : Period p
  pub column_period : Period q
  pub count : n ≡ p * q

-- two squares that touch and have equal ranks
pub record Clash (rank : ℕ → ℕ → ℕ) : Type 0 where
  pub row : ℕ
  pub column : ℕ
  pub other_row : ℕ
  pub other_column : ℕ
  pub touch : Touch row column other_row other_column
  pub equal : rank row column ≡ rank other_row other_column

-- the number with which a table of bytes is refused: 16 for its size, and else 17 for ranks that clash
abbrev pub Refused : ℕ → ℕ → List ℕ → ℕ → Type 0
Refused p q xs n = ((n ≡ 16) × (Sized p q (length xs) → ⊥)) ⊎ ((n ≡ 17) × Sized p q (length xs) × Clash (tabled p q xs))

-- a table of bytes is taken, and makes the plan m
pub record Taken (p q : ℕ) (xs : List ℕ) (m : Ranks) : Type 0 where
  pub sized : Sized p q (length xs)
  pub apart : Clash (tabled p q xs) → ⊥
  pub made : m ≡ table_plan p q xs

-- the ranks of the square at (r, c) and those to its east, south and south-east, as far as no other square's block compares them:
-- every two squares that touch are compared in some square's block
pub record BlockApart (rank : ℕ → ℕ → ℕ) (r c : ℕ) : Type 0 where
  pub east : rank r c ≡ rank r (c + 1) → ⊥
  pub south : rank r c ≡ rank (r + 1) c → ⊥
  pub south_east : rank r c ≡ rank (r + 1) (c + 1) → ⊥
  pub south_west : rank r (c + 1) ≡ rank (r + 1) c → ⊥

-- the same as a test
abbrev pub block_apart : (ℕ → ℕ → ℕ) → ℕ → ℕ → Bool
block_apart rank r c =
    not (rank r c == rank r (c + 1)) && (not (rank r c == rank (r + 1) c)
    && (not (rank r c == rank (r + 1) (c + 1)) && not (rank r (c + 1) == rank (r + 1) c)))
