-- One turn more of Finish: of a row, of a rank, and of all ranks.
use Rattle.std.proofs.Common.{◌≡◌, ℕ, zero, suc, ◌+◌, ◌*◌, ◌<◌, ◌≤◌, Bool, true, false, cond, not, ◌&&◌, get_or, sym, refl, ap, ◌∙◌, inl, inr, add-zero, add_assoc, add-suc, add-mul, one-mul, add-one, arith}
use Rattle.std.proofs.lemmas.Bool.{cases_Bool, eq-eqb, ne_eqb}
use Rattle.diffusion.specs.Bands.{Bands, standing, fixed_in}
use Rattle.diffusion.specs.Draft.{Setting}
use Rattle.diffusion.specs.Sets.{every, ready_by}
use Rattle.diffusion.specs.Sweeps.{due_in, pass_in, passed_in, sweep_in, swept_in}
use Rattle.model.specs.Calls.{Answer, Told, told, fix_at}
use Rattle.model.specs.Calls.Answer.{Code, Followed, Count, Resumed, Totals, Refused}
use Rattle.job.specs.Progress.{Progress, progress, and_then, visited, passed_from, passed_below, swept_below}
use Rattle.job.specs.Single.{attempt}
use Rattle.job.proofs.Refusing.{refused_fixed, refused_waiting, not_refused}

-- how many squares an attempt fixed
abbrev pub fixes : {T : Type 0} → Answer T → ℕ
fixes (Code c) = 1
fixes (Followed n r) = 0
fixes (Count n) = 0
fixes Resumed = 0
fixes (Totals a b c d) = 0
fixes (Refused n) = 0

module _ {T : Type 0} (j : Setting T) (s : ℕ) (b : Bands T) (inside : s < j.squares.count) where
  abbrev fixed : Bool
  fixed = standing b.codes s

  abbrev ready : Bool
  ready = ready_by j.squares (standing b.codes) s 8

  -- a square is due at its own rank when it is open and ready
  due_own : (f r : Bool) → fixed ≡ f → ready ≡ r → due_in j every (j.squares.rank s) b s ≡ not f && r
  due_own f r is are =
      ap (λ x. x && (not fixed && ready)) (eq-eqb (j.squares.rank s) (j.squares.rank s) refl) ∙ ap (λ x. not x && ready) is ∙ ap (λ x. not f && x) are

  -- an attempt visits the square at its own rank
  attempt_visits : progress (fixes (attempt j s b).answer) (attempt j s b).state ≡ visited j (j.squares.rank s) s b
  attempt_visits =
      let F = standing b.codes in
      let code = j.tables.choice (get_or b.amounts s j.algebra.zero) in
      let after = fixed_in j s b in
      let tries : ℕ → Progress T = λ n. progress (fixes (fix_at {T = T} n code after b).answer) (fix_at {T = T} n code after b).state in
      let visits : Bool → Progress T = λ d. progress (cond d 1 0) (cond d after b) in
      elim (cases_Bool fixed) [
        | inl f ↦ ap tries (refused_fixed j.squares F s inside f) ∙ sym (ap visits (due_own true ready f refl))
        | inr f ↦ elim (cases_Bool ready) [
          | inl r ↦ ap tries (not_refused j.squares F s inside f r) ∙ sym (ap visits (due_own false true f r))
          | inr r ↦ ap tries (refused_waiting j.squares F s inside f r) ∙ sym (ap visits (due_own false false f r))
        ]
      ]

  pub attempted : (a : Answer T) (after : Bands T) → told a after ≡ attempt j s b → progress (fixes a) after ≡ visited j (j.squares.rank s) s b
  attempted a after is = ap (λ (t : Told T (Bands T)). progress (fixes t.answer) t.state) is ∙ attempt_visits

module _ {T : Type 0} (j : Setting T) (rank : ℕ) where
  -- a square of another rank is left as it is
  pub visited_other : (s : ℕ) (b : Bands T) → (j.squares.rank s ≡ rank → ⊥) → visited j rank s b ≡ progress 0 b
  visited_other s b other =
      ap (λ d. progress (cond d 1 0) (cond d (fixed_in j s b) b))
      (ap (λ x. x && (not (standing b.codes s) && ready_by j.squares (standing b.codes) s 8)) (ne_eqb (j.squares.rank s) rank other))

  pub from_none : (a : ℕ) (b : Bands T) → passed_from j rank a 0 b ≡ progress 0 b
  unfolding passed_from
  from_none a b = refl

  -- one place more
  pub from_more : (a i n m : ℕ) (start before after : Bands T) → progress n before ≡ passed_from j rank a i start → progress m after ≡ visited j rank (a + i) before
      → progress (n + m) after ≡ passed_from j rank a (i + 1) start
  unfolding passed_from
  from_more a i n m start before after so did = rw add-one (joined n m before after (passed_from j rank a i start) (visited j rank (a + i)) so did)
    where
      joined : (n m : ℕ) (before after : Bands T) (s : Progress T) (f : Bands T → Progress T) → progress n before ≡ s → progress m after ≡ f before → progress (n + m) after ≡ and_then s f
      joined n m before after s f so did = ap (λ (t : Progress T). progress (n + t.count) t.bands) did ∙ ap (λ (t : Progress T). and_then t f) so

  -- one place more, of another rank
  pub from_other : (a i n : ℕ) (start before : Bands T) → progress n before ≡ passed_from j rank a i start → (j.squares.rank (a + i) ≡ rank → ⊥)
      → progress n before ≡ passed_from j rank a (i + 1) start
  from_other a i n start before so other =
      ap (λ k. progress k before) (sym (add-zero n)) ∙ from_more a i n 0 start before before so (sym (visited_other (a + i) before other))

  -- places of other ranks change nothing
  pub from_quiet : (a i k n : ℕ) (start before : Bands T) → progress n before ≡ passed_from j rank a i start
      → ((m : ℕ) → i ≤ m → m < i + k → j.squares.rank (a + m) ≡ rank → ⊥) → progress n before ≡ passed_from j rank a (i + k) start
  from_quiet a i zero n start before so others = so ∙ ap (λ m. passed_from j rank a m start) (sym (add-zero i))
  from_quiet a i (suc k) n start before so others =
      let next : i + k + 1 ≡ i + suc k = omega arith in
      from_other a (i + k) n start before (from_quiet a i k n start before so (λ m low high. others m low (omega arith))) (others (i + k) (omega arith) (omega arith))
      ∙ ap (λ m. passed_from j rank a m start) next

  -- the places below a, and n more
  below_on : (a n : ℕ) (b : Bands T) → and_then (passed_below j rank a b) (passed_from j rank a n) ≡ passed_below j rank (a + n) b
  unfolding pass_in passed_in passed_from
  below_on a zero b =
      ap (λ k. progress k (pass_in j every rank b a)) (add-zero (passed_in j every rank b a)) ∙ ap (λ k. passed_below j rank k b) (sym (add-zero a))
  below_on a (suc n) b =
      let s = passed_below j rank a b in
      let t = passed_from j rank a n s.bands in
      let u = visited j rank (a + n) t.bands in
      ap (λ k. progress k u.bands) (sym (add_assoc s.count t.count u.count))
      ∙ ap (λ (p : Progress T). and_then p (visited j rank (a + n))) (below_on a n b)
      ∙ ap (λ k. passed_below j rank k b) (sym (add-suc a n))

  pub below_none : (b : Bands T) → progress 0 b ≡ passed_below j rank 0 b
  unfolding pass_in passed_in
  below_none b = refl

  -- one row more
  pub row_more : (row columns n m : ℕ) (start before after : Bands T) → progress n before ≡ passed_below j rank (row * columns) start
      → progress m after ≡ passed_from j rank (row * columns) columns before → progress (n + m) after ≡ passed_below j rank ((row + 1) * columns) start
  row_more row columns n m start before after so did =
      let next : row * columns + columns ≡ (row + 1) * columns = sym (add-mul row 1 columns ∙ ap (λ k. row * columns + k) (one-mul columns)) in
      ap (λ (t : Progress T). progress (n + t.count) t.bands) did
      ∙ ap (λ (t : Progress T). and_then t (passed_from j rank (row * columns) columns)) so
      ∙ below_on (row * columns) columns start
      ∙ ap (λ k. passed_below j rank k start) next

module _ {T : Type 0} (j : Setting T) where
  pub swept_none : (b : Bands T) → progress 0 b ≡ swept_below j 0 b
  unfolding sweep_in swept_in
  swept_none b = refl

  -- one rank more
  pub rank_more : (rank n m : ℕ) (start before after : Bands T) → progress n before ≡ swept_below j rank start → progress m after ≡ passed_below j rank j.squares.count before
      → progress (n + m) after ≡ swept_below j (rank + 1) start
  unfolding sweep_in swept_in
  rank_more rank n m start before after so did =
      rw add-one
      (ap (λ (t : Progress T). progress (n + t.count) t.bands) did ∙ ap (λ (t : Progress T). and_then t (passed_below j rank j.squares.count)) so)
