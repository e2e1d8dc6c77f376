-- Every closed set is reached by a list of places that Follow accepts whole.
use Rattle.std.proofs.Common.{◌≡◌, ℕ, zero, suc, ◌<◌, ◌≤◌, Bool, List, [], ◌∷◌, ◌++◌, sym, refl, ap, ◌∙◌, subst, inl, inr, arith}
use Rattle.diffusion.specs.Neighbourhoods.{Neighbourhood}
use Rattle.diffusion.specs.Sets.{add}
use Rattle.diffusion.specs.Sweeps.{visit, pass, sweep}
use Rattle.diffusion.proofs.SetSweeps.{visit_is}
use Rattle.model.specs.Fixes.{refusal, Followed, followed_by, follow}
use Rattle.model.proofs.Followed.{fix_accepted}

module _ (squares : Neighbourhood) where
  -- from F, a list of places accepted whole ends in G
  abbrev pub Reached : (ℕ → Bool) → (ℕ → Bool) → Type 0
  Reached F G = (ps : List ℕ) × ((follow squares F ps).state ≡ G) × ((follow squares F ps).refusal ≡ 0)

  -- what the followed list ends in does not depend on the count
  abbrev Same : Followed (ℕ → Bool) → Followed (ℕ → Bool) → Type 0
  Same a b = (a.state ≡ b.state) × (a.refusal ≡ b.refusal)

  -- a list of places behind one that was accepted whole
  follow-append : (F : ℕ → Bool) (ps qs : List ℕ) → (follow squares F ps).refusal ≡ 0 → Same (follow squares F (ps ++ qs)) (follow squares (follow squares F ps).state qs)
  unfolding follow
  follow-append F [] qs e = (refl, refl)
  follow-append F (s ∷ ps) qs e = go (refusal squares F s) e (follow-append (add F s) ps qs)
    where
      go : (n : ℕ) → (followed_by F (follow squares (add F s) ps) n).refusal ≡ 0
          → ((follow squares (add F s) ps).refusal ≡ 0 → Same (follow squares (add F s) (ps ++ qs)) (follow squares (follow squares (add F s) ps).state qs))
          → Same (followed_by F (follow squares (add F s) (ps ++ qs)) n) (follow squares (followed_by F (follow squares (add F s) ps) n).state qs)
      go zero h rest = rest h
      go (suc n) h rest = absurd (omega arith)

  reached_none : (F : ℕ → Bool) → Reached F F
  unfolding follow
  reached_none F = ([], refl, refl)

  reached_both : (F G H : ℕ → Bool) → Reached F G → Reached G H → Reached F H
  reached_both F G H a b =
      let k = follow-append F a.0 b.0 a.2 in
      (a.0 ++ b.0, k.0 ∙ ap (λ X. (follow squares X b.0).state) a.1 ∙ b.1, k.1 ∙ ap (λ X. (follow squares X b.0).refusal) a.1 ∙ b.2)

  reached_one : (F : ℕ → Bool) (s : ℕ) → refusal squares F s ≡ 0 → Reached F (add F s)
  unfolding follow
  reached_one F s e = (s ∷ [], ap (λ n. (followed_by F (follow squares (add F s) []) n).state) e, ap (λ n. (followed_by F (follow squares (add F s) []) n).refusal) e)

  module _ (W : ℕ → Bool) where
    reached_visit : (r : ℕ) (F : ℕ → Bool) (s : ℕ) → s < squares.count → Reached F (visit squares W r F s)
    reached_visit r F s l = elim (visit_is squares W r F s) [
      | inl q ↦ subst (Reached F) (sym q.1) (reached_none F)
      | inr q ↦ subst (Reached F) (sym q.1) (reached_one F s (fix_accepted squares F s (record { inside = l; lacks = q.2; ready = q.3 })))
    ]

    reached_pass : (r : ℕ) (F : ℕ → Bool) (n : ℕ) → n ≤ squares.count → Reached F (pass squares W r F n)
    unfolding pass
    reached_pass r F zero l = reached_none F
    reached_pass r F (suc n) l = reached_both F _ _ (reached_pass r F n (omega arith)) (reached_visit r (pass squares W r F n) n (omega arith))

    pub reached : (F : ℕ → Bool) (r : ℕ) → Reached F (sweep squares W F r)
    unfolding sweep
    reached F zero = reached_none F
    reached F (suc r) = reached_both F _ _ (reached F r) (reached_pass r (sweep squares W F r) squares.count (omega arith))
