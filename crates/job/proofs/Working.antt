-- A replay, square by square and rank by rank.
use Rattle.std.proofs.Common.{◌≡◌, ℕ, zero, suc, ◌+◌, ◌*◌, ◌<◌, ◌≤◌, List, length, get_or, Some, None, Option, Ok, Err, Result, IsErr, sym, refl, ap, ◌∙◌}
use Rattle.std.proofs.lemmas.List.{get_or_default}
use Rattle.std.proofs.lemmas.Bool.{false≢true, eq-eqb, ne_eqb}
use Rattle.refusal.specs.declared.refusal.Refusal.{Refusal}
use Rattle.tone.specs.Algebra.{Algebra}
use Rattle.plan.specs.Ranks.{Ranks}
use Rattle.quantiser.specs.Tables.{Tables}
use Rattle.diffusion.specs.Draft.{Setting}
use Rattle.diffusion.specs.Drawings.{setting_of}
use Rattle.model.specs.Replays.{settle, replay_at, replay_visit, replay_sweep, replay}
use Rattle.model.proofs.OneMore.{replay_sweep_more, replay_sweep_failed, replay_more, replay_failed}
use Rattle.job.specs.Worked.{kept_if}
use Rattle.job.proofs.Standing.{standing-fixed}

-- nothing is kept where a `?` ends the work
pub kept_none : {T : Type 0} (r : Result (Unit {0}) Refusal) (xs : List T) → IsErr r → kept_if r xs ≡ None
kept_none (Ok u) xs e = absurd (false≢true e)
kept_none (Err x) xs e = refl

module _ {T : Type 0} (j : Setting T) (cs : List ℕ) (r : ℕ) where
  -- a standing square that is worked, by the code that is chosen for it and the one that is read
  module _ (s : ℕ) (xs : List T) (inside : s < length cs) (code : ℕ) (chosen : code ≡ j.tables.choice (get_or xs s j.algebra.zero)) where
    read : get_or cs s 255 ≡ get_or cs s 0
    read = get_or_default cs s 255 0 inside

    pub worked_right : (ys : List T) → code ≡ get_or cs s 0 → ys ≡ settle j s (get_or xs s j.algebra.zero) xs → Some ys ≡ replay_at j cs s xs
    worked_right ys right is = rw (eq-eqb (j.tables.choice (get_or xs s j.algebra.zero)) (get_or cs s 255) (sym chosen ∙ right ∙ sym read)) (ap Some is)

    pub worked_wrong : (code ≡ get_or cs s 0 → ⊥) → None ≡ replay_at j cs s xs
    worked_wrong wrong = rw (ne_eqb (j.tables.choice (get_or xs s j.algebra.zero)) (get_or cs s 255) (λ e. wrong (chosen ∙ e ∙ read))) refl

  -- a standing square whose turn it is
  pub visit_worked : (s : ℕ) (xs : List T) (o : Option (List T)) → j.squares.rank s ≡ r → s < length cs → (get_or cs s 0 ≡ 255 → ⊥) → o ≡ replay_at j cs s xs → o ≡ replay_visit j cs r s (Some xs)
  visit_worked s xs o turn inside stands is = rw (eq-eqb (j.squares.rank s) r turn, standing-fixed cs s inside stands) is

  -- a square of another rank
  pub visit_other : (s : ℕ) (xs : List T) → (j.squares.rank s ≡ r → ⊥) → Some xs ≡ replay_visit j cs r s (Some xs)
  visit_other s xs other = rw (ne_eqb (j.squares.rank s) r other) refl

  -- a place more, and the rest after a wrong code
  pub place_again : (start : Option (List T)) (n : ℕ) (ys : List T) (o : Option (List T)) → Some ys ≡ replay_sweep j cs r start n → o ≡ replay_visit j cs r n (Some ys)
      → o ≡ replay_sweep j cs r start (n + 1)
  place_again start n ys o before is = is ∙ ap (replay_visit j cs r n) before ∙ sym (replay_sweep_more j cs r start n)

  pub place_failed : (start : Option (List T)) (k n : ℕ) → k ≤ n → None ≡ replay_sweep j cs r start k → None ≡ replay_sweep j cs r start n
  place_failed start k n l failed = sym (replay_sweep_failed j cs r start k n l (sym failed))

module _ {T : Type 0} (j : Setting T) (cs : List ℕ) where
  -- a rank more, and the rest after a wrong code
  pub rank_again : (start : Option (List T)) (r : ℕ) (ys : List T) (o : Option (List T)) → Some ys ≡ replay j cs start r → o ≡ replay_sweep j cs r (Some ys) j.squares.count
      → o ≡ replay j cs start (r + 1)
  rank_again start r ys o before is = is ∙ ap (λ x. replay_sweep j cs r x j.squares.count) before ∙ sym (replay_more j cs start r)

  pub rank_failed : (start : Option (List T)) (k n : ℕ) → k ≤ n → None ≡ replay j cs start k → None ≡ replay j cs start n
  rank_failed start k n l failed = sym (replay_failed j cs start k n l (sym failed))

-- a replay does not look at the drawing
module _ {T : Type 0} (tone : Algebra T) (rows columns : ℕ) (plan : Ranks) (tables : Tables T) (f h : ℕ → T) (cs : List ℕ) where
  -- the same setting on two drawings
  abbrev by_f : Setting T
  by_f = setting_of tone rows columns plan tables f

  abbrev by_h : Setting T
  by_h = setting_of tone rows columns plan tables h

  visit-same : (r s : ℕ) (o : Option (List T)) → replay_visit by_f cs r s o ≡ replay_visit by_h cs r s o
  visit-same r s None = refl
  visit-same r s (Some xs) = refl

  sweep-same : (r : ℕ) (o : Option (List T)) (n : ℕ) → replay_sweep by_f cs r o n ≡ replay_sweep by_h cs r o n
  unfolding replay_sweep
  sweep-same r o zero = refl
  sweep-same r o (suc n) = ap (replay_visit by_f cs r n) (sweep-same r o n) ∙ visit-same r n (replay_sweep by_h cs r o n)

  pub replay-same : (o : Option (List T)) (r : ℕ) → replay by_f cs o r ≡ replay by_h cs o r
  unfolding replay
  replay-same o zero = refl
  replay-same o (suc r) = ap (λ x. replay_sweep by_f cs r x (rows * columns)) (replay-same o r) ∙ sweep-same r (replay by_h cs o r) (rows * columns)
