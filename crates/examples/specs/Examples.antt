-- Worked examples, one list of them, and what it means that one holds. The threshold is 128 throughout, and Knuth's plan stands where none
-- is named.
use Rattle.std.specs.Prelude.{◌≡◌, ℕ, ◌*◌, List, [], ◌∷◌, map, replicate, ℤ, pos, negsuc}
use Rattle.std.specs.List.{range_with_len}
use Rattle.tone.specs.Colour.{colour_of}
use Rattle.tone.specs.Grey.{wrap, grey_algebra}
use Rattle.tone.specs.declared.grey.Grey.{Grey}
use Rattle.plan.specs.Doubling.{doubling_plan}
use Rattle.plan.specs.Knuth.{knuth_plan}
use Rattle.plan.specs.Layers.{reversed}
use Rattle.plan.specs.Ranks.{Ranks}
use Rattle.plan.specs.Table as tables
use Rattle.quantiser.specs.Palette.{by_palette, Written}
use Rattle.quantiser.specs.Threshold.{by_threshold}
use Rattle.quantiser.specs.declared.palette.Palette.{Palette}
use Rattle.grid.specs.Limits as sizes
use Rattle.diffusion.specs.Bands.{Bands, opened}
use Rattle.diffusion.specs.Draft.{Setting, code, error}
use Rattle.diffusion.specs.Drawings.{setting_of}
use Rattle.diffusion.specs.Sets.{every}
use Rattle.diffusion.specs.Tallies.{lost}
use Rattle.model.specs.Calls.{Window, Call, Answer, Pools, pools}
use Rattle.model.specs.Calls.Answer.{Code, Followed, Count, Resumed, Totals, Refused}
use Rattle.model.specs.Calls.Call.{Fix, Follow, Finish, Halt, Resume, Tally, Losses}
use Rattle.model.specs.Jobs.{Job, job_of}
use Rattle.model.specs.Runs.{Ran, run}
use Rattle.model.specs.Steps.{step}

pub data Example : Type 0 where
  -- so many rows and columns stand
  Stands : ℕ → ℕ → Example
  -- so many rows and columns are refused with a number
  Oversized : ℕ → ℕ → ℕ → Example
  -- a table of so many rows and columns with these bytes is refused with a number
  Untaken : ℕ → ℕ → List ℕ → ℕ → Example
  -- the rank of a plan at a row and a column
  Rank : Ranks → ℕ → ℕ → ℕ → Example
  -- the ranks of a plan in a row, over one period
  Row : Ranks → ℕ → List ℕ → Example
  -- the share of a grey tone by a weight of a weight
  Share : ℤ → ℕ → ℕ → ℤ → Example
  -- the code for a tone of three channels, of a palette with these bytes
  Choice : List ℕ → ℤ → ℤ → ℤ → ℕ → Example
  -- a drawing of so many rows and columns, all of one grey: its codes, its errors and the places of its barons
  Draft : ℕ → ℕ → ℤ → List ℕ → List ℤ → List ℕ → Example
  -- calls on a new job of so many rows and columns, all of one grey, under a plan, with the memory lent for their outputs: the answers, and
  -- the bands and that memory afterwards
  Worked : ℕ → ℕ → ℤ → Ranks → List Call → Pools Grey → Ran Grey (Bands Grey) → Example

abbrev pub even : ℕ → ℕ → ℤ → Setting Grey
even rows columns x = setting_of grey_algebra rows columns knuth_plan (by_threshold (record { least = pos 128 })) (λ s. wrap x)

abbrev pub even_job : ℕ → ℕ → ℤ → Ranks → Job Grey
even_job rows columns x plan = job_of grey_algebra rows columns plan (by_threshold (record { least = pos 128 })) (replicate (rows * columns) (wrap x))

pub record Drafted (rows columns : ℕ) (x : ℤ) (cs : List ℕ) (es : List ℤ) (bs : List ℕ) : Type 0 where
  pub codes : map (code (even rows columns x)) (range_with_len 0 (rows * columns)) ≡ cs
  pub errors : map (λ s. (error (even rows columns x) s).value) (range_with_len 0 (rows * columns)) ≡ es
  pub barons : lost (even rows columns x).squares every (rows * columns) ≡ bs

abbrev pub Holds : Example → Type 0
Holds (Stands rows columns) = sizes.Within rows columns
Holds (Oversized rows columns n) = sizes.Refused rows columns n
Holds (Untaken rows columns bytes n) = tables.Refused rows columns bytes n
Holds (Rank plan r c n) = plan.rank r c ≡ n
Holds (Row plan r ns) = map (plan.rank r) (range_with_len 0 plan.column_period) ≡ ns
Holds (Share e w W x) = (grey_algebra.share (wrap e) w W).value ≡ x
Holds (Choice bytes r g b c) = (p : Palette) → Written bytes p → (by_palette p).choice (colour_of (wrap r) (wrap g) (wrap b)) ≡ c
Holds (Draft rows columns x codes errors barons) = Drafted rows columns x codes errors barons
Holds (Worked rows columns x plan cs o ran) = run (step (even_job rows columns x plan)) cs (opened (even_job rows columns x plan).setting) o ≡ ran

-- a part of the memory lent
abbrev pub window : ℕ → ℕ → Window
window start long = record { start = start; long = long }

abbrev pub greys : List ℤ → List Grey
greys = map wrap

-- what a list of calls leaves: the answers, the codes and the amounts, and the memory lent
abbrev pub left_with : List (Answer Grey) → List ℕ → List ℤ → Pools Grey → Ran Grey (Bands Grey)
left_with answers codes amounts o = record { answers = answers; state = record { codes = codes; amounts = greys amounts }; pools = o }

-- every call, accepted and refused
abbrev pub long_list : List Call
long_list =
    Follow (0 ∷ 1 ∷ 2 ∷ [])
    ∷ Fix 0 5
    ∷ Fix 0 0
    ∷ Follow (2 ∷ [])
    -- the record of 7 bytes, in a window that is too short, in one that is not, and in one that is cut where the memory ends
    ∷ Halt (window 0 6)
    ∷ Halt (window 1 7)
    ∷ Halt (window 5 100)
    -- place 1 alone stands; a spare bit stands; no size
    ∷ Resume (0 ∷ 1 ∷ 0 ∷ 3 ∷ 64 ∷ 1 ∷ [])
    ∷ Resume (0 ∷ 1 ∷ 0 ∷ 3 ∷ 225 ∷ 0 ∷ 1 ∷ 0 ∷ [])
    ∷ Resume (0 ∷ 1 ∷ [])
    ∷ Fix 0 1
    ∷ Losses (window 0 1) (window 1 1)
    ∷ Losses (window 0 0) (window 1 1)
    ∷ Tally
    -- another code than the definition's, which opens every square
    ∷ Resume (0 ∷ 1 ∷ 0 ∷ 3 ∷ 160 ∷ 1 ∷ 0 ∷ [])
    ∷ Tally
    ∷ Resume (0 ∷ 1 ∷ 0 ∷ 3 ∷ 160 ∷ 0 ∷ 0 ∷ [])
    ∷ Resume (0 ∷ 1 ∷ 0 ∷ 3 ∷ 224 ∷ 0 ∷ 255 ∷ 0 ∷ [])
    ∷ Finish
    ∷ []

abbrev pub long_answers : List (Answer Grey)
long_answers =
    Followed 1 5
    ∷ Refused 3
    ∷ Refused 4
    ∷ Followed 1 0
    ∷ Refused 6
    ∷ Count 7
    ∷ Refused 6
    ∷ Refused 8
    ∷ Refused 7
    ∷ Refused 7
    ∷ Code 1
    ∷ Count 1
    ∷ Refused 6
    ∷ Totals (wrap (pos 300)) (wrap (pos 255)) (wrap (pos 45)) (wrap (pos 0))
    ∷ Refused 9
    ∷ Totals (wrap (pos 300)) (wrap (pos 0)) (wrap (pos 0)) (wrap (pos 300))
    ∷ Resumed
    ∷ Refused 9
    ∷ Count 3
    ∷ []

abbrev pub examples : List Example
examples =
    Stands 4096 256
    ∷ Oversized 4096 257 1
    ∷ Untaken 2 2 (0 ∷ 1 ∷ 2 ∷ 0 ∷ []) 17
    ∷ Rank knuth_plan 6 5 63
    ∷ Rank knuth_plan 14 13 63
    ∷ Row (reversed (doubling_plan 1)) 0 (3 ∷ 1 ∷ [])
    ∷ Row (reversed (doubling_plan 1)) 1 (0 ∷ 2 ∷ [])
    ∷ Row (doubling_plan 2) 1 (12 ∷ 4 ∷ 14 ∷ 6 ∷ [])
    ∷ Share (negsuc 4) 2 3 (negsuc 2)
    ∷ Share (pos 5) 2 3 (pos 3)
    ∷ Choice (0 ∷ 0 ∷ 0 ∷ 254 ∷ 0 ∷ 0 ∷ []) (pos 127) (pos 0) (pos 0) 0
    ∷ Draft 1 1 (pos 200) (1 ∷ []) (negsuc 54 ∷ []) (0 ∷ [])
    ∷ Draft 2 2 (pos 100) (0 ∷ 0 ∷ 1 ∷ 1 ∷ []) (pos 100 ∷ pos 102 ∷ negsuc 114 ∷ negsuc 109 ∷ []) (3 ∷ [])
    ∷ Worked 1 3 (pos 100) (doubling_plan 1) (Follow (0 ∷ 1 ∷ 2 ∷ []) ∷ []) (pools [] [] [])
    (left_with (Followed 1 5 ∷ []) (0 ∷ 255 ∷ 255 ∷ []) (pos 100 ∷ pos 200 ∷ pos 100 ∷ []) (pools [] [] []))
    ∷ Worked 1 3 (pos 100) (doubling_plan 1) (Follow (2 ∷ 0 ∷ 1 ∷ []) ∷ Losses (window 0 2) (window 1 1) ∷ []) (pools [] (7 ∷ 7 ∷ []) (greys (pos 7 ∷ pos 7 ∷ [])))
    (left_with (Followed 3 0 ∷ Count 1 ∷ []) (0 ∷ 1 ∷ 0 ∷ []) (pos 100 ∷ pos 45 ∷ pos 100 ∷ []) (pools [] (1 ∷ 7 ∷ []) (greys (pos 7 ∷ pos 45 ∷ []))))
    ∷ Worked 1 3 (pos 100) (doubling_plan 1) long_list (pools (9 ∷ 9 ∷ 9 ∷ 9 ∷ 9 ∷ 9 ∷ 9 ∷ 9 ∷ 9 ∷ []) (7 ∷ 7 ∷ []) (greys (pos 7 ∷ pos 7 ∷ pos 7 ∷ [])))
    (left_with long_answers (0 ∷ 1 ∷ 0 ∷ []) (pos 100 ∷ pos 45 ∷ pos 100 ∷ [])
    (pools (9 ∷ 0 ∷ 1 ∷ 0 ∷ 3 ∷ 160 ∷ 0 ∷ 0 ∷ 9 ∷ []) (1 ∷ 7 ∷ []) (greys (pos 7 ∷ pos 45 ∷ pos 7 ∷ []))))
    ∷ []
