-- Sets of squares, as the squares that are fixed: a set says of each place whether it is a member.
use Rattle.std.specs.Prelude.{◌≡◌, ℕ, zero, suc, ◌+◌, ◌<◌, Bool, true, false, cond, ◌&&◌, ◌||◌, List, [], ◌∷◌, Some, None, Option, ◌==◌}
use Rattle.diffusion.specs.Neighbourhoods.{Neighbourhood, lower}

abbrev pub every : ℕ → Bool
every s = true

abbrev pub none : ℕ → Bool
none s = false

-- one square more
abbrev pub add : (ℕ → Bool) → ℕ → ℕ → Bool
add F s t = t == s || F t

-- every lower neighbour of a member is a member
abbrev pub Closed : Neighbourhood → (ℕ → Bool) → Type 0
Closed squares F = (s d t : ℕ) → s < squares.count → d < 8 → F s ≡ true → lower squares s d ≡ Some t → F t ≡ true

-- every lower neighbour of s is a member
abbrev pub Ready : Neighbourhood → (ℕ → Bool) → ℕ → Type 0
Ready squares F s = (d t : ℕ) → d < 8 → lower squares s d ≡ Some t → F t ≡ true

-- the same as a test: no place, or a member
abbrev pub okay : (ℕ → Bool) → Option ℕ → Bool
okay F None = true
okay F (Some t) = F t

-- for the directions below n
unfoldable pub ready_by : Neighbourhood → (ℕ → Bool) → ℕ → ℕ → Bool
ready_by squares F s zero = true
ready_by squares F s (suc n) = okay F (lower squares s n) && ready_by squares F s n

-- how many places below n are no members
unfoldable pub lacking : (ℕ → Bool) → ℕ → ℕ
lacking F zero = 0
lacking F (suc n) = lacking F n + cond (F n) 0 1

-- the squares of a list more
unfoldable pub add_all : (ℕ → Bool) → List ℕ → ℕ → Bool
add_all F [] = F
add_all F (s ∷ ps) = add_all (add F s) ps

-- a square that may be fixed: inside, no member yet, and ready
pub record Fixable (squares : Neighbourhood) (F : ℕ → Bool) (s : ℕ) : Type 0 where
  pub inside : s < squares.count
  pub lacks : F s ≡ false
  pub ready : Ready squares F s

-- each square of a list may be fixed once those before it are
pub data InTurn (squares : Neighbourhood) : (ℕ → Bool) → List ℕ → Type 0 where
  done : {F : ℕ → Bool} → InTurn squares F []
  next : {F : ℕ → Bool} {s : ℕ} {ps : List ℕ} → Fixable squares F s → InTurn squares (add F s) ps → InTurn squares F (s ∷ ps)
