-- Where a window begins and ends in lent memory of so many elements.
use Rattle.std.specs.Prelude.{ℕ, ◌+◌, ◌-◌, cond, nat_lt}
use Rattle.calls.specs.declared.window.Window.{Window}

abbrev pub low_end : Window → ℕ → ℕ
low_end w memory = cond (nat_lt w.start memory) w.start memory

abbrev pub high_end : Window → ℕ → ℕ
high_end w memory = cond (nat_lt w.length (memory - low_end w memory)) (low_end w memory + w.length) memory
