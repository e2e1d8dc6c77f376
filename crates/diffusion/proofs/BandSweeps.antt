-- A sweep of the ranks over bands: over bands of any content it fixes what a sweep of the standing squares adds, and over the bands of a
-- closed set it makes the bands of that set swept.
use Rattle.std.proofs.Common.{◌≡◌, ℕ, zero, suc, ◌+◌, ◌<◌, ◌≤◌, Bool, true, false, cond, not, ◌&&◌, ◌||◌, eqb, List, length, get_or, set, sym, refl, ap, ◌∙◌, ap₂, inl, inr, ⊎_elim, arith}
use mathlib.Core.Bool.{false≢true}
use Rattle.std.proofs.lemmas.List.{length-set, get_or-set_same, get_or-set_other}
use Rattle.std.proofs.lemmas.List.FromFn.{length-map-range_with_len}
use Rattle.std.proofs.lemmas.Bool.{cases_eq, cond-true, cond-false, eq-eqb, ne_eqb, both_ways}
use Rattle.diffusion.specs.Draft.{Setting, Lawful}
use Rattle.diffusion.specs.Sets.{every, none, add, lacking, Closed}
use Rattle.diffusion.specs.Bands.{Bands, bands, standing, fixed_in}
use Rattle.diffusion.specs.Sweeps.{due, visit, pass, passed, sweep, swept, due_in, visit_in, pass_in, passed_in, sweep_in, swept_in}
use Rattle.diffusion.specs.Theorems.{Capped, Fills, Finishes, Replays}
use Rattle.diffusion.proofs.Fixing.{add_same, add_other}
use Rattle.diffusion.proofs.SetBands.{ready_same, bands-same, opened_is, fix_adds, standing_is}
use Rattle.diffusion.proofs.SetSweeps.{visit_is, sweep_is, lacking-none}

-- a code written makes its square stand
standing-set : (cs : List ℕ) (s c t : ℕ) → s < length cs → c < 255 → standing (set cs s c) t ≡ add (standing cs) s t
standing-set cs s c t l few = elim (cases_eq t s) [
  | inl e ↦ ap (λ k. standing (set cs s c) k) e
      ∙ ap (λ x. not (eqb x 255)) (get_or-set_same cs s c 255 l)
      ∙ ap not (ne_eqb c 255 (λ q. omega arith))
      ∙ sym (add_same (standing cs) s t e)
  | inr ne ↦ ap (λ x. not (eqb x 255)) (get_or-set_other cs s t c 255 ne) ∙ sym (add_other (standing cs) s t ne)
]

module _ {T : Type 0} (j : Setting T) (lawful : Lawful j) (wanted : ℕ → Bool) where
  abbrev Agree : Bands T → (ℕ → Bool) → Type 0
  Agree b F = (length b.codes ≡ j.squares.count) × ((s : ℕ) → s < j.squares.count → standing b.codes s ≡ F s)

  due-same : (r : ℕ) (b : Bands T) (F : ℕ → Bool) → Agree b F → (s : ℕ) → s < j.squares.count → due_in j wanted r b s ≡ due j.squares wanted r F s
  due-same r b F k s l = ap₂ (λ x y. eqb (j.squares.rank s) r && (wanted s && (not x && y))) (k.1 s l) (ready_same j.squares lawful.squares (standing b.codes) F k.1 s l)

  visit-same : (r : ℕ) (b : Bands T) (F : ℕ → Bool) → Agree b F → (s : ℕ) → s < j.squares.count → Agree (visit_in j wanted r b s) (visit j.squares wanted r F s)
  visit-same r b F k s l = go (due_in j wanted r b s) (due j.squares wanted r F s) (due-same r b F k s l)
    where
      go : (x y : Bool) → x ≡ y → Agree (cond x (fixed_in j s b) b) (cond y (add F s) F)
      go true true e = (length-set b.codes s _ ∙ k.0, λ t h. standing-set b.codes s _ t (omega (arith, k.0)) (omega (arith, lawful.tables.within (get_or b.amounts s j.algebra.zero), lawful.tables.few)) ∙ ap (λ z. eqb t s || z) (k.1 t h))
      go false false e = k
      go true false e = absurd (false≢true (sym e))
      go false true e = absurd (false≢true e)

  pass_same : (r : ℕ) (b : Bands T) (F : ℕ → Bool) → Agree b F → (n : ℕ) → n ≤ j.squares.count
      → Agree (pass_in j wanted r b n) (pass j.squares wanted r F n) × (passed_in j wanted r b n ≡ passed j.squares wanted r F n)
  unfolding pass_in passed_in pass passed
  pass_same r b F k zero l = (k, refl)
  pass_same r b F k (suc n) l =
      let m = pass_same r b F k n (omega arith) in (
        visit-same r (pass_in j wanted r b n) (pass j.squares wanted r F n) m.0 n (omega arith),
        ap₂ (λ x d. x + cond d 1 0) m.1 (due-same r (pass_in j wanted r b n) (pass j.squares wanted r F n) m.0 n (omega arith)),
      )

  pub sweep-same : (b : Bands T) (F : ℕ → Bool) → Agree b F → (r : ℕ)
      → Agree (sweep_in j wanted b r) (sweep j.squares wanted F r) × (swept_in j wanted b r ≡ swept j.squares wanted F r)
  unfolding sweep_in swept_in sweep swept
  sweep-same b F k zero = (k, refl)
  sweep-same b F k (suc r) =
      let m = sweep-same b F k r in
      let v = pass_same r (sweep_in j wanted b r) (sweep j.squares wanted F r) m.0 j.squares.count (omega arith) in
      (v.0, ap₂ ◌+◌ m.1 v.1)

  -- a square that is fixed keeps its code
  abbrev Keeps : Bands T → Bands T → Type 0
  Keeps b a = (s : ℕ) → standing b.codes s ≡ true → get_or a.codes s 255 ≡ get_or b.codes s 255

  standing_kept : (b a : Bands T) → Keeps b a → (s : ℕ) → standing b.codes s ≡ true → standing a.codes s ≡ true
  standing_kept b a k s h = ap (λ c. not (eqb c 255)) (k s h) ∙ h

  visit_keeps : (r : ℕ) (b a : Bands T) → Keeps b a → (n : ℕ) → Keeps b (visit_in j wanted r a n)
  visit_keeps r b a k n s h = go (due_in j wanted r a n) refl
    where
      go : (x : Bool) → due_in j wanted r a n ≡ x → get_or (cond x (fixed_in j n a) a).codes s 255 ≡ get_or b.codes s 255
      go false e = k s h
      go true e = get_or-set_other a.codes n s _ 255 (λ q. both_ways (standing a.codes n)
          (elim (visit_is j.squares wanted r (standing a.codes) n) [ inl v ↦ absurd (both_ways (due_in j wanted r a n) v.0 e) | inr v ↦ v.2 ])
          (ap (standing a.codes) (sym q) ∙ standing_kept b a k s h)) ∙ k s h

  pass_keeps : (r : ℕ) (b a : Bands T) → Keeps b a → (n : ℕ) → Keeps b (pass_in j wanted r a n)
  unfolding pass_in
  pass_keeps r b a k zero = k
  pass_keeps r b a k (suc n) = visit_keeps r b (pass_in j wanted r a n) (pass_keeps r b a k n) n

  pub sweep_keeps : (b : Bands T) (r : ℕ) (s : ℕ) → standing b.codes s ≡ true → get_or (sweep_in j wanted b r).codes s 255 ≡ get_or b.codes s 255
  unfolding sweep_in
  sweep_keeps b r = go r
    where
      go : (r : ℕ) → Keeps b (sweep_in j wanted b r)
      go zero s h = refl
      go (suc r) s h = pass_keeps r b (sweep_in j wanted b r) (go r) j.squares.count s h

  -- the bands of a set, where a visit may fix
  due_is : (r : ℕ) (F : ℕ → Bool) (s : ℕ) → s < j.squares.count → due_in j wanted r (bands j F) s ≡ due j.squares wanted r F s
  due_is r F s l = due-same r (bands j F) F (length-map-range_with_len _ 0 j.squares.count, standing_is j F lawful.tables) s l

  visited : (r : ℕ) (F : ℕ → Bool) (s : ℕ) → Closed j.squares F → s < j.squares.count
      → (visit_in j wanted r (bands j F) s ≡ bands j (visit j.squares wanted r F s)) × Closed j.squares (visit j.squares wanted r F s)
  visited r F s closed l = elim (visit_is j.squares wanted r F s) [
    | inl q ↦ (cond-false (due_in j wanted r (bands j F) s) _ _ (due_is r F s l ∙ q.0) ∙ ap (bands j) (sym q.1), rw q.1 closed)
    | inr q ↦
        let one = fix_adds j lawful F closed s (record { inside = l; lacks = q.2; ready = q.3 }) in
        (cond-true (due_in j wanted r (bands j F) s) _ _ (due_is r F s l ∙ q.0) ∙ one.made ∙ ap (bands j) (sym q.1), rw q.1 one.closed)
  ]

  pass_is : (r : ℕ) (F : ℕ → Bool) → Closed j.squares F → (n : ℕ) → n ≤ j.squares.count
      → (pass_in j wanted r (bands j F) n ≡ bands j (pass j.squares wanted r F n)) × Closed j.squares (pass j.squares wanted r F n)
  unfolding pass_in pass
  pass_is r F closed zero l = (refl, closed)
  pass_is r F closed (suc n) l =
      let k = pass_is r F closed n (omega arith) in
      let v = visited r (pass j.squares wanted r F n) n k.1 (omega arith) in
      (ap (λ b. visit_in j wanted r b n) k.0 ∙ v.0, v.1)

  pub sweep-bands : (F : ℕ → Bool) → Closed j.squares F → (r : ℕ)
      → (sweep_in j wanted (bands j F) r ≡ bands j (sweep j.squares wanted F r)) × Closed j.squares (sweep j.squares wanted F r)
  unfolding sweep_in sweep
  sweep-bands F closed zero = (refl, closed)
  sweep-bands F closed (suc r) =
      let k = sweep-bands F closed r in
      let v = pass_is r (sweep j.squares wanted F r) k.1 j.squares.count (omega arith) in
      (ap (λ b. pass_in j wanted r b j.squares.count) k.0 ∙ v.0, v.1)

module _ {T : Type 0} (j : Setting T) (lawful : Lawful j) (top : ℕ) (capped : Capped j.squares top) where
  -- from any set, every square is swept up
  all_swept : (F : ℕ → Bool) (s : ℕ) → s < j.squares.count → sweep j.squares every F (suc top) s ≡ true
  all_swept F s l = (sweep_is j.squares lawful.squares every (λ s d t l ld h e. refl) F (suc top)).done s l refl (omega (arith, capped s l))

  number_is : (b : Bands T) (F : ℕ → Bool) → Agree j lawful every b F → swept_in j every b (suc top) ≡ lacking F j.squares.count
  number_is b F k =
      let m = sweep_is j.squares lawful.squares every (λ s d t l ld h e. refl) F (suc top) in
      let left : lacking (sweep j.squares every F (suc top)) j.squares.count ≡ 0 = lacking-none _ j.squares.count (all_swept F) in
      (sweep-same j lawful every b F k (suc top)).1 ∙ omega (arith, m.number, left)

  pub fills : (b : Bands T) → length b.codes ≡ j.squares.count → Fills j top b
  fills b long =
      let F = standing b.codes in
      let k = sweep-same j lawful every b F (long, λ s l. refl) (suc top) in
      record {
        fixed = λ s l e. both_ways (standing (sweep_in j every b (suc top)).codes s) (ap not (eq-eqb _ 255 e)) (k.0.1 s l ∙ all_swept F s l);
        number = number_is b F (long, λ s l. refl);
        kept = sweep_keeps j lawful every b (suc top);
        length = k.0.0;
      }

  pub finishes : (F : ℕ → Bool) → Closed j.squares F → Finishes j top F
  finishes F closed = record {
    made = (sweep-bands j lawful every F closed (suc top)).0 ∙ bands-same j lawful.squares (sweep j.squares every F (suc top)) every (all_swept F);
    number = number_is (bands j F) F (length-map-range_with_len _ 0 j.squares.count, standing_is j F lawful.tables);
  }

  pub replays : (F : ℕ → Bool) → Closed j.squares F → Replays j top F
  replays F closed =
      let k = sweep_is j.squares lawful.squares F closed none (suc top) in
      record {
        made = ap (λ b. sweep_in j F b (suc top)) (opened_is j lawful)
            ∙ (sweep-bands j lawful F none (λ s d t l ld h e. absurd (false≢true h)) (suc top)).0
            ∙ bands-same j lawful.squares (sweep j.squares F none (suc top)) F (λ s l. same_bool _ _
            (λ h. ⊎_elim (λ z. absurd (false≢true z)) (λ w. w) (k.only s h))
            (λ w. k.done s l w (omega (arith, capped s l))));
      }
    where
      same_bool : (a b : Bool) → (a ≡ true → b ≡ true) → (b ≡ true → a ≡ true) → a ≡ b
      same_bool true b f g = sym (f refl)
      same_bool false true f g = g refl
      same_bool false false f g = refl
