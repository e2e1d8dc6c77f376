-- What is promised of the definition. Each statement is the contract of a function of src/, over every kind of tone.
use Rattle.std.specs.Prelude.{◌≡◌, ℕ, suc, ◌+◌, ◌*◌, ◌<◌, ◌≤◌, Bool, true, false, cond, List, map, length, get_or, is_some, Some, None, ◌==◌, ◌≢◌, slice_index, slice_index_or}
use Rattle.std.specs.List.{ContainsAt as Has}
use Rattle.tone.specs.Algebra.{Algebra}
use Rattle.tone.specs.Algebra as tones
use Rattle.tone.specs.Sums.{sum_of, total}
use Rattle.plan.specs.Ranks as plans
use Rattle.quantiser.specs.Tables.{Tables, Sound}
use Rattle.grid.specs.Directions.{weight}
use Rattle.grid.specs.Lines.{plain}
use Rattle.grid.specs.Neighbours.{neighbour}
use Rattle.diffusion.specs.Bands.{Bands, bands, opened, standing, fixed_in, fixed_all}
use Rattle.diffusion.specs.Draft.{Setting, Lawful, due_amount, amount, code, error, sends}
use Rattle.diffusion.specs.Drawings.{plain_drawing, setting_of}
use Rattle.diffusion.specs.Neighbourhoods.{Neighbourhood, Laws, higher, weights, baron}
use Rattle.diffusion.specs.Sets.{none, every, add, add_all, lacking, Closed, Fixable, InTurn}
use Rattle.diffusion.specs.Sweeps.{sweep_in, swept_in}
use Rattle.diffusion.specs.Tallies.{all_of, output_of, loss_of, open_of, drawing_total, output_total, loss_total, open_total, loss_places, loss_errors}

-- 1. The amount of a square is the drawing's tone and the parts that its lower neighbours send it,
abbrev pub AmountSatisfiesTheRecursion : Type 0 → Type 0
AmountSatisfiesTheRecursion T = (j : Setting T) (s : ℕ) → amount j s ≡ due_amount j (amount j) s

-- and nothing else that is so at the squares of the drawing differs from it at any of them.
abbrev pub NothingElseSatisfiesTheRecursion : Type 0 → Type 0
NothingElseSatisfiesTheRecursion T = (j : Setting T) → Laws j.squares → (f : ℕ → T)
    → ((s : ℕ) → s < j.squares.count → f s ≡ due_amount j f s)
    → (s : ℕ) → s < j.squares.count → f s ≡ amount j s

-- 2. A fix of a square that may be fixed, on the bands of a closed set, gives the bands of the set with that square, which is closed again.
pub record Fixes {T : Type 0} (j : Setting T) (F : ℕ → Bool) (s : ℕ) : Type 0 where
  pub made : fixed_in j s (bands j F) ≡ bands j (add F s)
  pub closed : Closed j.squares (add F s)
  -- the amount that the bands hold there is the definition's
  pub held : get_or (bands j F).amounts s j.algebra.zero ≡ amount j s

abbrev pub FixAddsOneSquare : Type 0 → Type 0
FixAddsOneSquare T = (j : Setting T) → Lawful j → (F : ℕ → Bool) → Closed j.squares F → (s : ℕ) → Fixable j.squares F s → Fixes j F s

-- So the bands depend on which squares are fixed, and not on the order.
pub record Follows {T : Type 0} (j : Setting T) (F : ℕ → Bool) (ps : List ℕ) : Type 0 where
  pub made : fixed_all j ps (bands j F) ≡ bands j (add_all F ps)
  pub closed : Closed j.squares (add_all F ps)

pub record Orderless {T : Type 0} (j : Setting T) (F : ℕ → Bool) : Type 0 where
  -- sets with the same squares of the drawing have the same bands
  pub same : (G : ℕ → Bool) → ((s : ℕ) → s < j.squares.count → F s ≡ G s) → bands j F ≡ bands j G
  pub follows : (ps : List ℕ) → InTurn j.squares F ps → Follows j F ps
  pub alike : (ps qs : List ℕ) → InTurn j.squares F ps → InTurn j.squares F qs
      → ((s : ℕ) → s < j.squares.count → add_all F ps s ≡ add_all F qs s) → fixed_all j ps (bands j F) ≡ fixed_all j qs (bands j F)

abbrev pub OrderLeavesNoTrace : Type 0 → Type 0
OrderLeavesNoTrace T = (j : Setting T) → Lawful j → (F : ℕ → Bool) → Closed j.squares F → Orderless j F

-- 3. The drawing's total is in the outputs of the fixed squares, the losses of the fixed barons and the amounts of the open squares,
pub record KeepsTotal {T : Type 0} (j : Setting T) (F : ℕ → Bool) : Type 0 where
  pub kept : drawing_total j ≡ j.algebra.sum (j.algebra.sum (all_of j (output_of j F)) (all_of j (loss_of j F))) (all_of j (open_of j F))
  -- and the bands show these
  pub outputs : output_total j (bands j F) ≡ all_of j (output_of j F)
  pub losses : loss_total j (bands j F) ≡ all_of j (loss_of j F)
  pub amounts : open_total j (bands j F) ≡ all_of j (open_of j F)

abbrev pub TotalIsKept : Type 0 → Type 0
TotalIsKept T = (j : Setting T) → Lawful j → (F : ℕ → Bool) → Closed j.squares F → KeepsTotal j F

-- The list of losses has each fixed baron once, by rising place, and no other square; its errors are the definition's and come to the total.
pub record ListsLosses {T : Type 0} (j : Setting T) (F : ℕ → Bool) : Type 0 where
  pub rising : (i k : ℕ) → i < k → k < length (loss_places j (bands j F)) → slice_index (loss_places j (bands j F)) i < slice_index (loss_places j (bands j F)) k
  pub has : (s : ℕ) → s < j.squares.count → F s ≡ true → baron j.squares s ≡ true → Has (loss_places j (bands j F)) s
  pub only : (s : ℕ) → Has (loss_places j (bands j F)) s → (s < j.squares.count) × (F s ≡ true) × (baron j.squares s ≡ true)
  pub errors : loss_errors j (bands j F) ≡ map (error j) (loss_places j (bands j F))
  pub sum : sum_of j.algebra (loss_errors j (bands j F)) ≡ all_of j (loss_of j F)

abbrev pub LossesAreTheFixedBarons : Type 0 → Type 0
LossesAreTheFixedBarons T = (j : Setting T) → Lawful j → (F : ℕ → Bool) → ListsLosses j F

-- 4. While a square is open, some square may be fixed, and it has no higher rank. This holds of any set.
abbrev pub SomeSquareIsReady : Type 0
SomeSquareIsReady = (squares : Neighbourhood) → Laws squares → (F : ℕ → Bool) (s : ℕ) → s < squares.count → F s ≡ false
    → (t : ℕ) × Fixable squares F t × (squares.rank t ≤ squares.rank s)

-- So from any closed set, such as that of no square, one can go on until every square is fixed; and then the set is closed as well.
pub record ClosedEnds (squares : Neighbourhood) : Type 0 where
  pub first : Closed squares none
  pub last : Closed squares every

abbrev pub NoSquaresAndAllSquaresAreClosed : Type 0
NoSquaresAndAllSquaresAreClosed = (squares : Neighbourhood) → ClosedEnds squares

-- no rank is above the top
abbrev pub Capped : Neighbourhood → ℕ → Type 0
Capped squares top = (s : ℕ) → s < squares.count → squares.rank s ≤ top

-- 5. A sweep of the ranks from 0 to the top fixes every open square, whatever the bands hold, and their number is how many were open.
pub record Fills {T : Type 0} (j : Setting T) (top : ℕ) (b : Bands T) : Type 0 where
  pub fixed : (s : ℕ) → s < j.squares.count → slice_index_or (sweep_in j every b (suc top)).codes s 255 ≢ 255
  pub number : swept_in j every b (suc top) ≡ lacking (standing b.codes) j.squares.count
  -- a square that was fixed keeps its code
  pub kept : (s : ℕ) → standing b.codes s ≡ true → slice_index_or (sweep_in j every b (suc top)).codes s 255 ≡ slice_index_or b.codes s 255
  pub length : length (sweep_in j every b (suc top)).codes ≡ j.squares.count

abbrev pub SweepFixesEveryOpenSquare : Type 0 → Type 0
SweepFixesEveryOpenSquare T = (j : Setting T) → Lawful j → (top : ℕ) → Capped j.squares top
    → (b : Bands T) → length b.codes ≡ j.squares.count → Fills j top b

-- From the bands of a closed set it ends in the bands of all squares.
pub record Finishes {T : Type 0} (j : Setting T) (top : ℕ) (F : ℕ → Bool) : Type 0 where
  pub made : sweep_in j every (bands j F) (suc top) ≡ bands j every
  pub number : swept_in j every (bands j F) (suc top) ≡ lacking F j.squares.count

abbrev pub SweepFinishesAClosedSet : Type 0 → Type 0
SweepFinishesAClosedSet T = (j : Setting T) → Lawful j → (top : ℕ) → Capped j.squares top
    → (F : ℕ → Bool) → Closed j.squares F → Finishes j top F

-- The squares of a closed set, and no others, swept on a new job give the bands of that set.
pub record Replays {T : Type 0} (j : Setting T) (top : ℕ) (F : ℕ → Bool) : Type 0 where
  pub made : sweep_in j F (opened j) (suc top) ≡ bands j F

abbrev pub ReplayGivesTheBandsOfTheSet : Type 0 → Type 0
ReplayGivesTheBandsOfTheSet T = (j : Setting T) → Lawful j → (top : ℕ) → Capped j.squares top
    → (F : ℕ → Bool) → Closed j.squares F → Replays j top F

-- 6. The codes tell the set, since no choice is 255.
abbrev pub CodesTellTheSet : Type 0 → Type 0
CodesTellTheSet T = (j : Setting T) → Sound j.algebra j.tables → (F : ℕ → Bool) (s : ℕ) → s < j.squares.count
    → standing (bands j F).codes s ≡ F s

-- 7. The parts that a square sends add up to its error, unless it is a baron, which sends nothing; and none goes where no higher neighbour is.
pub record AddsUp {T : Type 0} (tone : Algebra T) (squares : Neighbourhood) (s : ℕ) (e : T) : Type 0 where
  pub whole : baron squares s ≡ false → total tone (sends tone squares s e) 8 ≡ e
  pub nothing : (d : ℕ) → d < 8 → is_some (higher squares s d) ≡ false → sends tone squares s e d ≡ tone.zero
  -- a baron is a square with no higher neighbour in any direction
  pub alone : baron squares s ≡ true → (d : ℕ) → d < 8 → higher squares s d ≡ None
  pub accompanied : baron squares s ≡ false → (d : ℕ) × (t : ℕ) × (d < 8) × (higher squares s d ≡ Some t)

abbrev pub PartsAddUpToTheError : Type 0 → Type 0
PartsAddUpToTheError T = (tone : Algebra T) → tones.Lawful tone → (squares : Neighbourhood) (s : ℕ) (e : T) → AddsUp tone squares s e

-- Of the higher neighbours the last in the order of directions receives the error less all other parts, and each other its share.
pub record SharesOut {T : Type 0} (tone : Algebra T) (squares : Neighbourhood) (s : ℕ) (e : T) : Type 0 where
  pub rest : (d t : ℕ) → d < 8 → higher squares s d ≡ Some t → ((i : ℕ) → d < i → i < 8 → higher squares s i ≡ None)
      → sends tone squares s e d ≡ tone.difference e (total tone (λ i. cond (i == d) tone.zero (sends tone squares s e i)) 8)
  pub share : (d t i u : ℕ) → d < i → i < 8 → higher squares s d ≡ Some t → higher squares s i ≡ Some u
      → sends tone squares s e d ≡ tone.share e (weight d) (weights squares s 8)

abbrev pub LastHigherNeighbourReceivesTheRest : Type 0 → Type 0
LastHigherNeighbourReceivesTheRest T = (tone : Algebra T) (squares : Neighbourhood) (s : ℕ) (e : T) → SharesOut tone squares s e

-- 8. Two settings with the same tone, the same drawing, the same neighbours, choices and outputs, and with neighbours in the same order of
-- rank, whatever the ranks are.
pub record Alike {T : Type 0} (j k : Setting T) : Type 0 where
  pub algebra : j.algebra ≡ k.algebra
  pub count : j.squares.count ≡ k.squares.count
  pub near : (s d : ℕ) → s < j.squares.count → d < 8 → j.squares.near s d ≡ k.squares.near s d
  pub order : (s d t : ℕ) → s < j.squares.count → d < 8 → j.squares.near s d ≡ Some t → j.squares.rank s < j.squares.rank t → k.squares.rank s < k.squares.rank t
  pub choice : (x : T) → j.tables.choice x ≡ k.tables.choice x
  pub output : (c : ℕ) → j.tables.output c ≡ k.tables.output c
  pub drawing : (s : ℕ) → s < j.squares.count → j.drawing s ≡ k.drawing s

-- They have the same draft, and the same bands for every set.
pub record SameDraft {T : Type 0} (j k : Setting T) : Type 0 where
  pub amounts : (s : ℕ) → s < j.squares.count → amount j s ≡ amount k s
  pub codes : (s : ℕ) → s < j.squares.count → code j s ≡ code k s
  pub errors : (s : ℕ) → s < j.squares.count → error j s ≡ error k s
  pub bands : (F : ℕ → Bool) → bands j F ≡ bands k F

abbrev pub DraftDependsOnOrderAndTables : Type 0 → Type 0
DraftDependsOnOrderAndTables T = (j k : Setting T) → Laws j.squares → Alike j k → SameDraft j k

-- A plain drawing under a lawful plan keeps the laws of a neighbourhood, and its ranks end at the plan's top.
pub record LaysOut (rows columns : ℕ) (plan : plans.Ranks) : Type 0 where
  pub laws : Laws (plain_drawing rows columns plan)
  pub capped : Capped (plain_drawing rows columns plan) plan.top
  -- the place of a row and a column has the neighbours and the rank of that row and column
  pub near : (r c d : ℕ) → c < columns → (plain_drawing rows columns plan).near (r * columns + c) d ≡ neighbour (plain rows) (plain columns) r c d
  pub rank : (r c : ℕ) → c < columns → (plain_drawing rows columns plan).rank (r * columns + c) ≡ plan.rank r c

abbrev pub PlainDrawingKeepsTheLaws : Type 0
PlainDrawingKeepsTheLaws = (rows columns : ℕ) (plan : plans.Ranks) → plans.Lawful plan → LaysOut rows columns plan

-- So every drawing under a plan and a quantiser that keep their laws is a setting that keeps its own.
pub record LawfulDrawing {T : Type 0} (tone : Algebra T) (plan : plans.Ranks) (tables : Tables T) : Type 0 where
  pub lawful : (rows columns : ℕ) (drawing : ℕ → T) → Lawful (setting_of tone rows columns plan tables drawing)
  pub capped : (rows columns : ℕ) (drawing : ℕ → T) → Capped (setting_of tone rows columns plan tables drawing).squares plan.top
