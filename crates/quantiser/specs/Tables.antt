-- What a quantiser means: how many codes it has, the choice for each tone, the output for each code; and the laws of these.
use Rattle.std.specs.Prelude.{◌≡◌, ℕ, ◌<◌, ◌≤◌}
use Rattle.tone.specs.Algebra.{Algebra}

pub record Tables (X : Type 0) : Type 0 where
  pub count : ℕ
  pub choice : X → ℕ
  pub output : ℕ → X

pub record Sound {X : Type 0} (a : Algebra X) (t : Tables X) : Type 0 where
  pub some : 1 ≤ t.count
  pub few : t.count ≤ 254
  pub within : (x : X) → t.choice x < t.count
  -- a code that it lacks puts out zero
  pub lacking : (c : ℕ) → t.count ≤ c → t.output c ≡ a.zero
