-- The two bands: a code and a tone for each square. First what they hold when just the squares of a set are fixed, then what a fix makes of
-- bands of any content.
use Rattle.std.specs.Prelude.{ℕ, zero, suc, Bool, cond, not, List, [], ◌∷◌, map, Some, None, Option, ◌==◌, slice_index_or, slice_set}
use Rattle.std.specs.List.{range_with_len}
use Rattle.tone.specs.Algebra.{Algebra}
use Rattle.diffusion.specs.Draft.{Setting, code, error, part, left, sends, gather}
use Rattle.diffusion.specs.Neighbourhoods.{Neighbourhood, higher}

pub record Bands (T : Type 0) : Type 0 where
  pub codes : List ℕ
  pub amounts : List T

module _ {T : Type 0} (j : Setting T) where
  -- a member's code; 255 for an open square
  unfoldable pub code_at : (ℕ → Bool) → ℕ → ℕ
  code_at F s = cond (F s) (code j s) 255

  -- what t sends if it is a member
  abbrev pub part_in : (ℕ → Bool) → ℕ → ℕ → T
  part_in F t d = cond (F t) (part j t d) j.algebra.zero

  -- a member's error; for an open square the drawing's tone and what its neighbours in the set send it
  unfoldable pub amount_at : (ℕ → Bool) → ℕ → T
  amount_at F s = cond (F s) (error j s) (j.algebra.sum (j.drawing s) (gather j.algebra j.squares (part_in F) s))

  abbrev pub codes : (ℕ → Bool) → List ℕ
  codes F = map (code_at F) (range_with_len 0 j.squares.count)

  abbrev pub amounts : (ℕ → Bool) → List T
  amounts F = map (amount_at F) (range_with_len 0 j.squares.count)

  -- the bands when just the squares of F are fixed
  abbrev pub bands : (ℕ → Bool) → Bands T
  bands F = record { codes = codes F; amounts = amounts F }

  -- the bands of a new job: every square open, with the drawing's tone
  abbrev pub opened : Bands T
  opened = record { codes = map (λ s. 255) (range_with_len 0 j.squares.count); amounts = map j.drawing (range_with_len 0 j.squares.count) }

-- the fixed squares, by the codes: every byte but 255 means fixed
abbrev pub standing : List ℕ → ℕ → Bool
standing cs s = not (slice_index_or cs s 255 == 255)

-- a part added to the tone at a place, if there is one
abbrev pub put : {T : Type 0} → Algebra T → Option ℕ → T → List T → List T
put tone None p xs = xs
put tone (Some t) p xs = slice_set xs t (tone.sum (slice_index_or xs t tone.zero) p)

-- the parts p of s added to its higher neighbours, for the directions below n
unfoldable pub spread : {T : Type 0} → Algebra T → Neighbourhood → ℕ → (ℕ → T) → ℕ → List T → List T
spread tone squares s p zero xs = xs
spread tone squares s p (suc n) xs = put tone (higher squares s n) (p n) (spread tone squares s p n xs)

module _ {T : Type 0} (j : Setting T) where
  -- s fixed with the amount x: its code is stored, its error stands in place of the amount, and the parts go to the higher neighbours
  abbrev pub fixed_by : ℕ → T → Bands T → Bands T
  fixed_by s x b = record {
    codes = slice_set b.codes s (j.tables.choice x);
    amounts = spread j.algebra j.squares s (sends j.algebra j.squares s (left j x)) 8 (slice_set b.amounts s (left j x));
  }

  -- s fixed with the amount that the bands hold
  abbrev pub fixed_in : ℕ → Bands T → Bands T
  fixed_in s b = fixed_by s (slice_index_or b.amounts s j.algebra.zero) b

  -- the squares of a list, one after the other
  unfoldable pub fixed_all : List ℕ → Bands T → Bands T
  fixed_all [] b = b
  fixed_all (s ∷ ps) b = fixed_all ps (fixed_in s b)
