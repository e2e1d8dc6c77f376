-- What is promised of the calls on a job. Each statement is the contract of a function of src/, over every kind of tone.
use Rattle.std.specs.Prelude.{◌≡◌, ℕ, suc, ◌<◌, Bool, true, false, cond, List, [], ◌∷◌, ◌++◌, map, length, Some, None, ◌≢◌, slice_index, slice_index_or}
use Rattle.std.specs.List.{ContainsAt as Has}
use Rattle.tone.specs.Sums.{sum_of}
use Rattle.diffusion.specs.Bands.{Bands, bands, opened, standing, amounts, part_in}
use Rattle.diffusion.specs.Draft.{code, error, gather}
use Rattle.diffusion.specs.Neighbourhoods.{baron}
use Rattle.diffusion.specs.Sets.{none, lacking, Closed}
use Rattle.diffusion.specs.Tallies.{drawing_total, output_total, open_total, loss_places, loss_errors}
use Rattle.diffusion.specs.Theorems.{Alike}
use Rattle.model.specs.Calls.{Call, told, wrote, Pools, carry_told, carry}
use Rattle.model.specs.Calls.Answer.{Code, Count, Resumed}
use Rattle.model.specs.Calls.Call.{Follow, Finish}
use Rattle.model.specs.Jobs.{Job, Lawful, squares, fits}
use Rattle.model.specs.Records.{record_of, record_refusal, stands, code_in, well_formed, closed_by}
use Rattle.model.specs.Replays.{codes_in, replay}
use Rattle.model.specs.Runs.{run, carry_ran}
use Rattle.model.specs.Steps.{on_bands, on_set, step, model}

-- 1. Each call on the bands of a closed set: the bands become those of the set that the model makes, the answer and the outputs are the
-- model's, and the model's set is closed again.
pub record Agrees {T : Type 0} (p : Job T) (F : ℕ → Bool) : Type 0 where
  pub fix : (row column : ℕ) → (on_bands p).fix row column (bands p.setting F) ≡ carry_told (bands p.setting) ((on_set p).fix row column F)
  pub fix_closed : (row column : ℕ) → Closed p.setting.squares ((on_set p).fix row column F).state
  pub follow : (ps : List ℕ) → (on_bands p).follow ps (bands p.setting F) ≡ carry_told (bands p.setting) ((on_set p).follow ps F)
  pub follow_closed : (ps : List ℕ) → Closed p.setting.squares ((on_set p).follow ps F).state
  pub finish : (on_bands p).finish (bands p.setting F) ≡ carry_told (bands p.setting) ((on_set p).finish F)
  pub finish_closed : Closed p.setting.squares ((on_set p).finish F).state
  pub halt : (out : List ℕ) → (on_bands p).halt (bands p.setting F) out ≡ (on_set p).halt F out
  pub resume : (rec : List ℕ) → (on_bands p).resume rec (bands p.setting F) ≡ carry_told (bands p.setting) ((on_set p).resume rec F)
  pub resume_closed : (rec : List ℕ) → Closed p.setting.squares ((on_set p).resume rec F).state
  pub tally : (on_bands p).tally (bands p.setting F) ≡ (on_set p).tally F
  pub losses : (places : List ℕ) (errors : List T) → (on_bands p).losses (bands p.setting F) places errors ≡ (on_set p).losses F places errors

abbrev pub CallsAgreeWithTheModel : Type 0 → Type 0
CallsAgreeWithTheModel T = (p : Job T) → Lawful p → (F : ℕ → Bool) → Closed p.setting.squares F → Agrees p F

-- So does any call, with outputs of its own,
abbrev pub AnyCallAgreesWithTheModel : Type 0 → Type 0
AnyCallAgreesWithTheModel T = (p : Job T) → Lawful p → (c : Call) (F : ℕ → Bool) (o : Pools T) → Closed p.setting.squares F
    → (step p c (bands p.setting F) o ≡ carry (bands p.setting) (model p c F o)) × Closed p.setting.squares (model p c F o).state

-- and so does every list of calls.
abbrev pub ListsOfCallsAgreeWithTheModel : Type 0 → Type 0
ListsOfCallsAgreeWithTheModel T = (p : Job T) → Lawful p → (cs : List Call) (F : ℕ → Bool) (o : Pools T) → Closed p.setting.squares F
    → (run (step p) cs (bands p.setting F) o ≡ carry_ran (bands p.setting) (run (model p) cs F o)) × Closed p.setting.squares (run (model p) cs F o).state

-- the squares fixed after a list of calls on a new job
abbrev pub fixed_after : {T : Type 0} → Job T → List Call → Pools T → ℕ → Bool
fixed_after p cs o = (run (model p) cs none o).state

-- the bands after it
abbrev pub bands_after : {T : Type 0} → Job T → List Call → Pools T → Bands T
bands_after p cs o = (run (step p) cs (opened p.setting) o).state

-- the record that Halt then writes
abbrev pub record_after : {T : Type 0} → Job T → List Call → Pools T → List ℕ
record_after p cs o = record_of p.rows p.columns (bands_after p cs o).codes

-- 2. What holds after every list of calls on a new job
pub record HoldsAfter {T : Type 0} (p : Job T) (cs : List Call) (o : Pools T) : Type 0 where
  -- the bands, the answers and the outputs are the model's
  pub whole : run (step p) cs (opened p.setting) o ≡ carry_ran (bands p.setting) (run (model p) cs none o)
  pub closed : Closed p.setting.squares (fixed_after p cs o)
  -- each fixed square has the definition's code and error
  pub codes : (s : ℕ) → s < squares p → slice_index_or (bands_after p cs o).codes s 255 ≡ cond (fixed_after p cs o s) (code p.setting s) 255
  pub errors : (s : ℕ) → s < squares p → fixed_after p cs o s ≡ true → slice_index_or (bands_after p cs o).amounts s p.setting.algebra.zero ≡ error p.setting s
  -- an open square holds the drawing's tone and what its fixed neighbours sent
  pub rest : (s : ℕ) → s < squares p → fixed_after p cs o s ≡ false
      → slice_index_or (bands_after p cs o).amounts s p.setting.algebra.zero
      ≡ p.setting.algebra.sum (p.setting.drawing s) (gather p.setting.algebra p.setting.squares (part_in p.setting (fixed_after p cs o)) s)
  -- the drawing's total is the outputs of the fixed squares, the listed losses and the amounts of the open squares
  pub total : drawing_total p.setting
      ≡ p.setting.algebra.sum
      (p.setting.algebra.sum (output_total p.setting (bands_after p cs o)) (sum_of p.setting.algebra (loss_errors p.setting (bands_after p cs o))))
      (open_total p.setting (bands_after p cs o))
  -- the list of losses has each fixed baron once, by rising place, and no other square, with the definition's errors
  pub rising : (i k : ℕ) → i < k → k < length (loss_places p.setting (bands_after p cs o))
      → slice_index (loss_places p.setting (bands_after p cs o)) i < slice_index (loss_places p.setting (bands_after p cs o)) k
  pub listed : (s : ℕ) → s < squares p → fixed_after p cs o s ≡ true → baron p.setting.squares s ≡ true → Has (loss_places p.setting (bands_after p cs o)) s
  pub only : (s : ℕ) → Has (loss_places p.setting (bands_after p cs o)) s → (s < squares p) × (fixed_after p cs o s ≡ true) × (baron p.setting.squares s ≡ true)
  pub lost : loss_errors p.setting (bands_after p cs o) ≡ map (error p.setting) (loss_places p.setting (bands_after p cs o))
  -- while a square is open some Fix would be accepted
  pub next : (s : ℕ) → s < squares p → fixed_after p cs o s ≡ false
      → (row : ℕ) × (column : ℕ) × (k : ℕ) × (((on_bands p).fix row column (bands_after p cs o)).answer ≡ Code k)
  -- Finish leaves none open
  pub finished : (s : ℕ) → s < squares p → standing (bands_after p (cs ++ Finish ∷ []) o).codes s ≡ true

abbrev pub EveryListOfCallsKeepsTheDraft : Type 0 → Type 0
EveryListOfCallsKeepsTheDraft T = (p : Job T) → Lawful p → (cs : List Call) (o : Pools T) → HoldsAfter p cs o

-- On bands of any content Finish fixes every open square, and answers how many there were.
pub record Fills {T : Type 0} (p : Job T) (b : Bands T) : Type 0 where
  pub number : ((on_bands p).finish b).answer ≡ Count (lacking (standing b.codes) (squares p))
  pub all : (s : ℕ) → s < squares p → standing ((on_bands p).finish b).state.codes s ≡ true

abbrev pub FinishFixesEveryOpenSquare : Type 0 → Type 0
FinishFixesEveryOpenSquare T = (p : Job T) → Lawful p → (b : Bands T) → fits p b ≡ true → Fills p b

-- 3. Two lists of calls that end with the same squares fixed end with the same bands, whichever squares went first: for two jobs with
-- equal drawings, whose ranks put neighbours in the same order and whose choices and outputs are equal.
abbrev pub SameSquaresSameBands : Type 0 → Type 0
SameSquaresSameBands T = (p q : Job T) → Lawful p → Lawful q → Alike p.setting q.setting → (cs ds : List Call) (o u : Pools T)
    → ((s : ℕ) → s < squares p → fixed_after p cs o s ≡ fixed_after q ds u s) → bands_after p cs o ≡ bands_after q ds u

-- every element is a byte
abbrev pub Bytes : List ℕ → Type 0
Bytes rec = (k : ℕ) → slice_index rec k < 256

-- 4. Resume accepts a record just when a list of calls on a new job ends where Halt writes it,
pub record AcceptsWhatIsWritten {T : Type 0} (p : Job T) : Type 0 where
  pub written : (rec : List ℕ) → Bytes rec → (b : Bands T) → fits p b ≡ true → ((on_bands p).resume rec b).answer ≡ Resumed
      → (o : Pools T) → (ps : List ℕ) × (record_after p (Follow ps ∷ []) o ≡ rec)
  pub accepted : (cs : List Call) (o : Pools T) → record_refusal p (record_after p cs o) ≡ 0
  -- Halt writes it into an output of just its length,
  pub halts : (cs : List Call) (o : Pools T) (out : List ℕ) → length out ≡ length (record_after p cs o)
      → (on_bands p).halt (bands_after p cs o) out ≡ wrote (Count (length (record_after p cs o))) (record_after p cs o)
  -- and it brings back the bands entire, whatever they held.
  pub back : (cs : List Call) (o : Pools T) (b : Bands T) → fits p b ≡ true
      → (on_bands p).resume (record_after p cs o) b ≡ told Resumed (bands_after p cs o)

abbrev pub ResumeAcceptsJustWhatHaltWrites : Type 0 → Type 0
ResumeAcceptsJustWhatHaltWrites T = (p : Job T) → Lawful p → AcceptsWhatIsWritten p

-- 5. The squares that stand in a code band, worked again from the drawing: the amounts of these squares where each code is the
-- definition's, and nothing where one is not.
pub record Replays {T : Type 0} (p : Job T) (cs : List ℕ) : Type 0 where
  pub right : ((s : ℕ) → s < squares p → standing cs s ≡ true → slice_index_or cs s 255 ≡ code p.setting s)
      → replay p.setting cs (Some (opened p.setting).amounts) (suc p.top) ≡ Some (amounts p.setting (standing cs))
  pub wrong : (((s : ℕ) → s < squares p → standing cs s ≡ true → slice_index_or cs s 255 ≡ code p.setting s) → ⊥)
      → replay p.setting cs (Some (opened p.setting).amounts) (suc p.top) ≡ None

abbrev pub ReplayJudgesEveryCode : Type 0 → Type 0
ReplayJudgesEveryCode T = (p : Job T) → Lawful p → (cs : List ℕ) → Closed p.setting.squares (standing cs) → Replays p cs

-- So Resume can be made by a replay: 9 where a standing square has the code 255, else what the replay of the record's codes says.
pub record Resumes {T : Type 0} (p : Job T) (rec : List ℕ) : Type 0 where
  pub full : (s : ℕ) → s < squares p → stands rec s ≡ true → code_in (squares p) rec s ≡ 255 → record_refusal p rec ≡ 9
  pub some : ((s : ℕ) → s < squares p → stands rec s ≡ true → code_in (squares p) rec s ≢ 255)
      → (xs : List T) → replay p.setting (codes_in (squares p) rec) (Some (opened p.setting).amounts) (suc p.top) ≡ Some xs
      → (record_refusal p rec ≡ 0) × (bands p.setting (stands rec) ≡ record { codes = codes_in (squares p) rec; amounts = xs })
  pub wrong : ((s : ℕ) → s < squares p → stands rec s ≡ true → code_in (squares p) rec s ≢ 255)
      → replay p.setting (codes_in (squares p) rec) (Some (opened p.setting).amounts) (suc p.top) ≡ None
      → record_refusal p rec ≡ 9

abbrev pub ResumeIsAReplay : Type 0 → Type 0
ResumeIsAReplay T = (p : Job T) → Lawful p → (rec : List ℕ) → well_formed p rec ≡ true → closed_by p.setting.squares (stands rec) ≡ true → Resumes p rec
