-- A list of calls, in turn.
use Rattle.std.specs.Prelude.{List, [], ◌∷◌}
use Rattle.model.specs.Calls.{Call, Answer, Pools, Done}

pub record Ran (T S : Type 0) : Type 0 where
  pub answers : List (Answer T)
  pub state : S
  pub pools : Pools T

abbrev pub ran_more : {T S : Type 0} → Answer T → Ran T S → Ran T S
ran_more a r = record { answers = a ∷ r.answers; state = r.state; pools = r.pools }

abbrev pub carry_ran : {T S R : Type 0} → (S → R) → Ran T S → Ran T R
carry_ran f r = record { answers = r.answers; state = f r.state; pools = r.pools }

unfoldable pub run : {T S : Type 0} → (Call → S → Pools T → Done T S) → List Call → S → Pools T → Ran T S
run f [] s o = record { answers = []; state = s; pools = o }
run f (c ∷ cs) s o = let d = f c s o in ran_more d.answer (run f cs d.state d.pools)
