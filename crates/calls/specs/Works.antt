-- The calls and answers of the code as the model has them, and what is promised of a list of calls.
use Rattle.std.specs.Prelude.{◌≡◌, ℕ, List, ◌++◌, map, length, drop, Ok, Err, Result}
use Rattle.refusal.specs.Numbers.{number_of}
use Rattle.refusal.specs.declared.refusal.Refusal.{Refusal}
use Rattle.diffusion.specs.Bands.{Bands, bands}
use Rattle.diffusion.specs.Sets.{none}
use Rattle.model.specs.Calls as pure
use Rattle.model.specs.Calls.{Pools, Wrote, wrote, Listed, listed, inside, refill}
use Rattle.model.specs.Jobs.{Job}
use Rattle.model.specs.Runs.{Ran, run, carry_ran}
use Rattle.model.specs.Steps.{halt_on, losses_on, model}
use Rattle.model.specs.Theorems.{HoldsAfter}
use Rattle.calls.specs.declared.call.Answer.{Answer}
use Rattle.calls.specs.declared.call.Answer.TheVariants.{Code, Followed, Count, Resumed, Totals}
use Rattle.calls.specs.declared.call.Call.{Call}
use Rattle.calls.specs.declared.call.Call.TheVariants.{Fix, Follow, Finish, Halt, Resume, Tally, Losses}
use Rattle.calls.specs.declared.window.Window.{Window}

abbrev pub window_of : Window → pure.Window
window_of w = record { start = w.start; long = w.length }

abbrev pub call_of : Call → pure.Call
call_of (Fix row column) = pure.Call.Fix row column
call_of (Follow places) = pure.Call.Follow places.now
call_of Finish = pure.Call.Finish
call_of (Halt w) = pure.Call.Halt (window_of w)
call_of (Resume saved) = pure.Call.Resume saved.now
call_of Tally = pure.Call.Tally
call_of (Losses w v) = pure.Call.Losses (window_of w) (window_of v)

abbrev pub accepted_of : {T : Type 0} → Answer T → pure.Answer T
accepted_of (Code c) = pure.Answer.Code c
accepted_of (Followed n e) = pure.Answer.Followed n e
accepted_of (Count n) = pure.Answer.Count n
accepted_of Resumed = pure.Answer.Resumed
accepted_of (Totals t) = pure.Answer.Totals t.drawing t.outputs t.losses t.amounts

-- an answer, or why there is none
abbrev pub Outcome : Type 0 → Type 0
Outcome T = Result (Answer T) Refusal

-- a refusal is told by its number
abbrev pub answer_of : {T : Type 0} → Outcome T → pure.Answer T
answer_of (Ok answer) = accepted_of answer
answer_of (Err e) = pure.Answer.Refused (number_of e)

-- Halt and Losses into windows
abbrev pub halt_in : {T : Type 0} → Job T → Bands T → pure.Window → List ℕ → Wrote T
halt_in p b w bytes = let x = halt_on p b (inside w bytes) in wrote x.answer (refill w bytes x.out)

abbrev pub losses_in : {T : Type 0} → Job T → Bands T → pure.Window → pure.Window → List ℕ → List T → Listed T
losses_in p b w v places errors =
    let x = losses_on p b (inside w places) (inside v errors) in listed x.answer (refill w places x.places) (refill v errors x.errors)

-- all that a list of calls leaves: the answers, the bands and the lent memory
abbrev pub ran_of : {T : Type 0} → List (Outcome T) → Bands T → Pools T → Ran T (Bands T)
ran_of list b o = record { answers = map answer_of list; state = b; pools = o }

-- a run's answers in front of what lies behind them in the list of answers
abbrev pub filled : {T : Type 0} → Ran T (Bands T) → List (Outcome T) → Ran T (Bands T)
filled r old = record { answers = r.answers ++ map answer_of (drop (length r.answers) old); state = r.state; pools = r.pools }

-- what is promised of any list of calls on a new job: all that it leaves is the model's, and what holds of the set that the model ends in
pub record Promise {T : Type 0} (p : Job T) (calls : List Call) (old new : List (Outcome T)) (o u : Pools T) (b : Bands T) : Type 0 where
  pub whole : ran_of new b u ≡ filled (carry_ran (bands p.setting) (run (model p) (map call_of calls) none o)) old
  pub holds : HoldsAfter p (map call_of calls) o
