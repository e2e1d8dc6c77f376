-- Whether a square is fixed, by the code that is read. Inside a band the default of a read does not matter.
use Rattle.std.proofs.Common.{◌≡◌, ℕ, ◌<◌, Bool, true, false, not, ◌&&◌, eqb, List, length, get_or, sym, ap, ◌∙◌}
use Rattle.std.proofs.lemmas.List.{get_or_default}
use Rattle.std.proofs.lemmas.Bool.{eq-eqb, ne_eqb}
use Rattle.diffusion.specs.Bands.{standing}
use Rattle.diffusion.specs.Neighbourhoods.{Neighbourhood, baron}

pub standing_read : (codes : List ℕ) (s : ℕ) → s < length codes → standing codes s ≡ not (eqb (get_or codes s 0) 255)
standing_read codes s h = ap (λ c. not (eqb c 255)) (get_or_default codes s 255 0 h)

pub standing-fixed : (codes : List ℕ) (s : ℕ) → s < length codes → (get_or codes s 0 ≡ 255 → ⊥) → standing codes s ≡ true
standing-fixed codes s h ne = standing_read codes s h ∙ ap not (ne_eqb (get_or codes s 0) 255 ne)

pub standing_open : (codes : List ℕ) (s : ℕ) → s < length codes → get_or codes s 0 ≡ 255 → standing codes s ≡ false
standing_open codes s h e = standing_read codes s h ∙ ap not (eq-eqb (get_or codes s 0) 255 e)

-- by the test that the code makes
pub lost_read : (codes : List ℕ) (s : ℕ) → s < length codes → (squares : Neighbourhood) (b : Bool) → b ≡ (not (eqb (get_or codes s 0) 255) && baron squares s) → b ≡ (standing codes s && baron squares s)
lost_read codes s inside squares b tested = tested ∙ ap (λ f. f && baron squares s) (sym (standing_read codes s inside))
