-- From an accepted Open and the calls in turn to the promise.
use Rattle.std.proofs.Common.{◌≡◌, ℕ, ◌*◌, Bool, true, false, cond, ◌&&◌, eqb, List, map, refl, ap, ◌∙◌, arith}
use Rattle.std.proofs.lemmas.Bool.{and_parts, eqb-true}
use Rattle.grid.specs.Limits.{within}
use Rattle.diffusion.specs.Bands.{Bands, opened}
use Rattle.model.specs.Calls.{Pools}
use Rattle.model.specs.Jobs.{Job, Lawful}
use Rattle.model.specs.Openings.{open_refusal}
use Rattle.model.specs.Runs.{run}
use Rattle.model.specs.Steps.{step}
use Rattle.model.proofs.Kept.{holds_after}
use Rattle.calls.specs.Works.{Outcome, call_of, ran_of, filled, Promise}
use Rattle.calls.specs.declared.call.Call.{Call}

-- the lengths that an accepted Open tells
pub record Lengths (rows columns d a c : ℕ) : Type 0 where
  pub drawing : d ≡ rows * columns
  pub amounts : a ≡ rows * columns
  pub codes : c ≡ rows * columns

pub opened_lengths : (rows columns d a c : ℕ) → open_refusal rows columns d a c ≡ 0 → Lengths rows columns d a c
opened_lengths rows columns d a c = go (within rows columns) (eqb d (rows * columns) && (eqb a (rows * columns) && eqb c (rows * columns))) refl
  where
    go : (w e : Bool) → eqb d (rows * columns) && (eqb a (rows * columns) && eqb c (rows * columns)) ≡ e → ◌≡◌ {A = ℕ} (cond w (cond e 0 2) 1) 0 → Lengths rows columns d a c
    go true true e h =
        let outer = and_parts (eqb d (rows * columns)) _ e in
        let inner = and_parts (eqb a (rows * columns)) (eqb c (rows * columns)) outer.1 in
        record { drawing = eqb-true d (rows * columns) outer.0; amounts = eqb-true a (rows * columns) inner.0; codes = eqb-true c (rows * columns) inner.1 }
    go true false e h = absurd (omega arith)
    go false true e h = absurd (omega arith)
    go false false e h = absurd (omega arith)

pub promised : {T : Type 0} (p : Job T) → Lawful p → (calls : List Call) (old new : List (Outcome T)) (o u : Pools T) (b start : Bands T)
    → start ≡ opened p.setting → ran_of new b u ≡ filled (run (step p) (map call_of calls) start o) old → Promise p calls old new o u b
promised p law calls old new o u b start is ran = record {
  whole = ran ∙ ap (λ x. filled (run (step p) (map call_of calls) x o) old) is ∙ ap (λ x. filled x old) (holds_after p law (map call_of calls) o).whole;
  holds = holds_after p law (map call_of calls) o;
}
