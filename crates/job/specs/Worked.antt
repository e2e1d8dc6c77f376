-- What a part of a replay leaves: the amounts, or nothing where a code was wrong.
use Rattle.std.specs.Prelude.{◌≡◌, ℕ, suc, true, false, List, Some, None, Option, Ok, Err, Result, is_ok, IfErr}
use Rattle.refusal.specs.declared.refusal.Refusal.{Refusal}
use Rattle.refusal.specs.declared.refusal.Refusal.TheVariants.{WrongCode}
use Rattle.diffusion.specs.Draft.{Setting}
use Rattle.model.specs.Replays.{codes_in, replay}
use Rattle.job.specs.Coded.{EachCoded}

-- the amounts, if all codes were right so far
abbrev pub kept_if : {T : Type 0} → Result (Unit {0}) Refusal → List T → Option (List T)
kept_if (Ok u) xs = Some xs
kept_if (Err e) xs = None

-- the record's codes written into the code band, and the standing squares worked again from the drawing up to the rank top
pub record Reworked {T : Type 0} (j : Setting T) (top : ℕ) (drawing : List T) (rec : List ℕ) (r : Result (Unit {0}) Refusal) (codes : List ℕ) (amounts : List T) : Type 0 where
  -- all codes were right
  pub each : is_ok r ≡ true → EachCoded j.squares.count rec
  pub codes_are : is_ok r ≡ true → codes ≡ codes_in j.squares.count rec
  pub amounts_are : is_ok r ≡ true → replay j (codes_in j.squares.count rec) (Some drawing) (suc top) ≡ Some amounts
  -- one was not
  pub failed : is_ok r ≡ false → EachCoded j.squares.count rec → replay j (codes_in j.squares.count rec) (Some drawing) (suc top) ≡ None
  pub reason : IfErr r (λ e. e ≡ WrongCode)
