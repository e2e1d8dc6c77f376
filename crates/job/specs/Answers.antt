-- What each call of the code returns, as an answer of the model. A refusal is told by its number.
use Rattle.std.specs.Prelude.{ℕ, Ok, Err, Result}
use Rattle.refusal.specs.declared.refusal.Refusal.{Refusal}
use Rattle.refusal.specs.Numbers.{number_of}
use Rattle.model.specs.Calls.{Answer}
use Rattle.model.specs.Calls.Answer.{Code, Followed, Count, Resumed, Totals, Refused}
use Rattle.job.specs.declared.totals.Totals as totals

-- Fix
abbrev pub coded : {T : Type 0} → Result ℕ Refusal → Answer T
coded (Ok code) = Code code
coded (Err e) = Refused (number_of e)

-- Finish, Halt and Losses
abbrev pub counted : {T : Type 0} → Result ℕ Refusal → Answer T
counted (Ok n) = Count n
counted (Err e) = Refused (number_of e)

-- Follow: how many were accepted, and the number of the refusal or 0
abbrev pub followed : {T : Type 0} → ℕ × ℕ → Answer T
followed pair = Followed pair.0 pair.1

-- Resume
abbrev pub resumed : {T : Type 0} → Result (Unit {0}) Refusal → Answer T
resumed (Ok u) = Resumed
resumed (Err e) = Refused (number_of e)

-- Tally
abbrev pub totalled : {T : Type 0} → Result (totals.Totals T) Refusal → Answer T
totalled (Ok t) = Totals t.drawing t.outputs t.losses t.amounts
totalled (Err e) = Refused (number_of e)

-- why there is no result, as a number; 0 where there is one
abbrev pub refused : {X : Type 0} → Result X Refusal → ℕ
refused (Ok x) = 0
refused (Err e) = number_of e
