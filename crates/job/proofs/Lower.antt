-- In Finish every square of a lower rank is fixed, so that no square waits.
use Rattle.std.proofs.Common.{◌≡◌, ℕ, zero, suc, ◌+◌, ◌<◌, ◌≤◌, Bool, true, false, cond, not, ◌&&◌, eqb, List, length, Some, None, Option, sym, refl, ap, ◌∙◌, ap₂, inl, inr, arith}
use Rattle.std.proofs.lemmas.List.{get_or-set_other}
use Rattle.std.proofs.lemmas.Bool.{both_ways}
use Rattle.diffusion.specs.Bands.{Bands, standing, fixed_in}
use Rattle.diffusion.specs.Draft.{Setting, Lawful}
use Rattle.diffusion.specs.Neighbourhoods.{Neighbourhood, Laws, lower}
use Rattle.diffusion.specs.Sets.{every, okay, ready_by}
use Rattle.diffusion.specs.Sweeps.{due_in, visit_in, pass_in}
use Rattle.diffusion.proofs.BandSweeps.{sweep-same}
use Rattle.diffusion.proofs.Neighbours.{lower_near, lower-within}
use Rattle.diffusion.proofs.SetSweeps.{visit_is, sweep_is}
use Rattle.job.specs.Progress.{Progress, progress, passed_from, passed_below, swept_below, LowerStand}

-- a square whose lower ranks are all fixed is ready
pub lower_ready : (squares : Neighbourhood) → Laws squares → (codes : List ℕ) (s : ℕ) → s < squares.count → LowerStand squares (squares.rank s) codes → (n : ℕ) → n ≤ 8
    → ready_by squares (standing codes) s n ≡ true
unfolding ready_by
lower_ready squares laws codes s l h zero few = refl
lower_ready squares laws codes s l h (suc d) few = ap₂ ◌&&◌ (free (lower squares s d) refl) (lower_ready squares laws codes s l h d (omega arith))
  where
    free : (t : Option ℕ) → lower squares s d ≡ t → okay (standing codes) t ≡ true
    free None e = refl
    free (Some t) e = h t (lower-within squares laws s d t l (omega arith) e) (lower_near squares s d t e).1

-- of a rank that is the same
pub at_rank : (squares : Neighbourhood) (codes : List ℕ) (own rank : ℕ) → own ≡ rank → LowerStand squares rank codes → LowerStand squares own codes
at_rank squares codes own rank e h s l p = h s l (omega (arith, e, p))

module _ {T : Type 0} (j : Setting T) (rank : ℕ) where
  -- a visit opens no square
  visit-stands : (n s : ℕ) (b : Bands T) → standing b.codes s ≡ true → standing (visit_in j every rank b n).codes s ≡ true
  visit-stands n s b h = go (due_in j every rank b n) refl
    where
      go : (x : Bool) → due_in j every rank b n ≡ x → standing (cond x (fixed_in j n b) b).codes s ≡ true
      go false e = h
      go true e = ap (λ c. not (eqb c 255)) (get_or-set_other b.codes n s _ 255 (λ q. both_ways (standing b.codes n)
          (elim (visit_is j.squares every rank (standing b.codes) n) [ inl v ↦ absurd (both_ways (due_in j every rank b n) v.0 e) | inr v ↦ v.2 ])
          (ap (standing b.codes) (sym q) ∙ h))) ∙ h

  from_stands : (a n s : ℕ) (b : Bands T) → standing b.codes s ≡ true → standing (passed_from j rank a n b).bands.codes s ≡ true
  unfolding passed_from
  from_stands a zero s b h = h
  from_stands a (suc n) s b h = visit-stands (a + n) s (passed_from j rank a n b).bands (from_stands a n s b h)

  below-stands : (n s : ℕ) (b : Bands T) → standing b.codes s ≡ true → standing (pass_in j every rank b n).codes s ≡ true
  unfolding pass_in
  below-stands zero s b h = h
  below-stands (suc n) s b h = visit-stands n s (pass_in j every rank b n) (below-stands n s b h)

  -- within a row, from the row's start
  pub lower_from : (a n count : ℕ) (start before : Bands T) → progress count before ≡ passed_from j rank a n start → LowerStand j.squares rank start.codes → LowerStand j.squares rank before.codes
  lower_from a n count start before e h s l p = ap (λ (q : Progress T). standing q.bands.codes s) e ∙ from_stands a n s start (h s l p)

  -- within a rank, from the rank's start
  pub lower-below : (n count : ℕ) (start before : Bands T) → progress count before ≡ passed_below j rank n start → LowerStand j.squares rank start.codes → LowerStand j.squares rank before.codes
  lower-below n count start before e h s l p = ap (λ (q : Progress T). standing q.bands.codes s) e ∙ below-stands n s start (h s l p)

-- behind the passes of all lower ranks, whatever the bands held
pub lower-swept : {T : Type 0} (j : Setting T) → Lawful j → (rank count : ℕ) (start before : Bands T) → length start.codes ≡ j.squares.count
    → progress count before ≡ swept_below j rank start → LowerStand j.squares rank before.codes
lower-swept {T = T} j lawful rank count start before long e s l p =
    let F = standing start.codes in
    ap (λ (q : Progress T). standing q.bands.codes s) e
    ∙ (sweep-same j lawful every start F (long, λ t h. refl) rank).0.1 s l
    ∙ (sweep_is j.squares lawful.squares every (λ s d t l ld h e. refl) F rank).done s l refl p
