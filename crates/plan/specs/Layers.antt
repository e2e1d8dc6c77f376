-- What each layer makes of the plan below.
use Rattle.std.specs.Prelude.{ℕ, ◌+◌, ◌-◌, ◌%◌, Option, None, Some}
use Rattle.plan.specs.Ranks.{Ranks}

-- the same plan, read at other rows and columns
abbrev pub reading : (ℕ → ℕ) → (ℕ → ℕ) → Ranks → Ranks
reading f g m = record {
  row_period = m.row_period;
  column_period = m.column_period;
  top = m.top;
  rank = λ r c. m.rank (f r) (g c);
}

-- a further on, reduced by the period
abbrev pub along : ℕ → ℕ → ℕ → ℕ
along p a x = (x + a) % p

-- counted from the other end of the period
abbrev pub across : ℕ → ℕ → ℕ
across q x = q - 1 - x % q

-- as it stands
abbrev pub same : ℕ → ℕ
same x = x

abbrev pub shifted : ℕ → ℕ → Ranks → Ranks
shifted a b m = reading (along m.row_period a) (along m.column_period b) m

abbrev pub mirrored : Ranks → Ranks
mirrored m = reading same (across m.column_period) m

-- rows and columns exchanged
abbrev pub turned : Ranks → Ranks
turned m = record {
  row_period = m.column_period;
  column_period = m.row_period;
  top = m.top;
  rank = λ r c. m.rank c r;
}

-- the top less each rank
abbrev pub reversed : Ranks → Ranks
reversed m = record {
  row_period = m.row_period;
  column_period = m.column_period;
  top = m.top;
  rank = λ r c. m.top - m.rank r c;
}

-- what a layer makes of the plan, where there is one
abbrev pub optional : {L : Type 0} → (L → Ranks → Ranks) → Option L → Ranks → Ranks
optional over None m = m
optional over (Some l) m = over l m
