-- Fix and Follow by their refusals: on a set of squares, and on bands of any content.
use Rattle.std.specs.Prelude.{ℕ, zero, suc, ◌+◌, Bool, cond, List, [], ◌∷◌, nat_lt}
use Rattle.diffusion.specs.Bands.{Bands, standing, fixed_in}
use Rattle.diffusion.specs.Draft.{Setting}
use Rattle.diffusion.specs.Neighbourhoods.{Neighbourhood}
use Rattle.diffusion.specs.Sets.{add, ready_by}

-- 0, or why s cannot be fixed where the squares of F are: 3 outside the drawing, 4 fixed already, 5 a lower neighbour open
unfoldable pub refusal : Neighbourhood → (ℕ → Bool) → ℕ → ℕ
refusal squares F s = cond (nat_lt s squares.count) (cond (F s) 4 (cond (ready_by squares F s 8) 0 5)) 3

-- a state, how many places of a list were accepted, and the refusal that ended it, or 0
pub record Followed (S : Type 0) : Type 0 where
  pub state : S
  pub count : ℕ
  pub refusal : ℕ

-- by the refusal of the next place: what the rest of the list makes with one more accepted, or the end
abbrev pub followed_by : {S : Type 0} → S → Followed S → ℕ → Followed S
followed_by s rest zero = record { state = rest.state; count = rest.count + 1; refusal = rest.refusal }
followed_by s rest (suc n) = record { state = s; count = 0; refusal = suc n }

unfoldable pub follow : Neighbourhood → (ℕ → Bool) → List ℕ → Followed (ℕ → Bool)
follow squares F [] = record { state = F; count = 0; refusal = 0 }
follow squares F (s ∷ ps) = followed_by F (follow squares (add F s) ps) (refusal squares F s)

unfoldable pub follow_in : {T : Type 0} → Setting T → Bands T → List ℕ → Followed (Bands T)
follow_in j b [] = record { state = b; count = 0; refusal = 0 }
follow_in j b (s ∷ ps) = followed_by b (follow_in j (fixed_in j s b) ps) (refusal j.squares (standing b.codes) s)
