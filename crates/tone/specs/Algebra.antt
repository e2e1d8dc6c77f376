-- The four operations of a tone, and the laws that they keep.
use Rattle.std.specs.Prelude.{◌≡◌, ℕ}

pub record Algebra (X : Type 0) : Type 0 where
  pub zero : X
  pub sum : X → X → X
  pub difference : X → X → X
  -- share e w W: the part of e by the weight w of the weight W
  pub share : X → ℕ → ℕ → X

-- nothing is asked of the share
pub record Lawful {X : Type 0} (a : Algebra X) : Type 0 where
  pub assoc : (x y z : X) → a.sum (a.sum x y) z ≡ a.sum x (a.sum y z)
  pub comm : (x y : X) → a.sum x y ≡ a.sum y x
  pub neutral : (x : X) → a.sum x a.zero ≡ x
  pub back : (x y : X) → a.sum (a.difference x y) y ≡ x
