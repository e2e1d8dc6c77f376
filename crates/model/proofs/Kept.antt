-- What holds after every list of calls on a new job.
use Rattle.std.proofs.Common.{◌≡◌, ℕ, suc, ◌*◌, ◌/◌, ◌%◌, ◌<◌, Bool, true, cond, not, eqb, List, [], ◌∷◌, ◌++◌, map, length, get_or, sym, refl, ap, ◌∙◌, subst, ap₂}
use Rattle.std.specs.List.{ContainsAt as Has}
use Rattle.std.proofs.lemmas.Nat.{div-add-mod', div_below, mod_below}
use Rattle.std.proofs.lemmas.Bool.{cond-true, lt-ltb, ne_eqb, eqb-true, and_from, and_parts}
use Rattle.tone.specs.Sums.{sum_of}
use Rattle.diffusion.specs.Bands.{Bands, bands, opened, code_at, codes, standing}
use Rattle.diffusion.specs.Draft.{code, error}
use Rattle.diffusion.specs.Sets.{every, none, add, Closed}
use Rattle.diffusion.specs.Sweeps.{sweep_in, swept_in}
use Rattle.diffusion.specs.Tallies.{output_total, open_total, loss_places, loss_errors}
use Rattle.diffusion.specs.Theorems.{Alike, ListsLosses}
use Rattle.diffusion.proofs.BandSweeps as sweeps
use Rattle.diffusion.proofs.Conserved.{keeps_total}
use Rattle.diffusion.proofs.Fixing.{amount_open, amount-fixed}
use Rattle.diffusion.proofs.Lines.{wide_enough}
use Rattle.diffusion.proofs.Lost.{lists_losses}
use Rattle.diffusion.proofs.Readiness.{some_ready}
use Rattle.diffusion.proofs.SameDraft.{same_draft}
use Rattle.diffusion.proofs.SetBands.{bands-same, opened_is, standing_is, code_read, amount_read}
use Rattle.model.specs.Calls.{Call, Pools, Done, told, fix_at}
use Rattle.model.specs.Calls.Answer.{Code, Count}
use Rattle.model.specs.Calls.Call.{Finish}
use Rattle.model.specs.Fixes.{refusal}
use Rattle.model.specs.Jobs.{Job, Lawful, squares, place, fits}
use Rattle.model.specs.Runs.{run, carry_ran}
use Rattle.model.specs.Steps.{on_bands, on_set, step, model}
use Rattle.model.specs.Theorems.{fixed_after, bands_after, HoldsAfter, Fills}
use Rattle.model.proofs.Agreed.{agrees, ran}
use Rattle.model.proofs.Followed.{fix_accepted}

run-append : {T S : Type 0} (f : Call → S → Pools T → Done T S) (cs ds : List Call) (s : S) (o : Pools T)
    → (run f (cs ++ ds) s o).state ≡ (run f ds (run f cs s o).state (run f cs s o).pools).state
unfolding run
run-append f [] ds s o = refl
run-append f (c ∷ cs) ds s o = run-append f cs ds (f c s o).state (f c s o).pools

run_finish : {T : Type 0} (p : Job T) (F : ℕ → Bool) (o : Pools T) → (run (model p) (Finish ∷ []) F o).state ≡ every
unfolding run
run_finish p F o = refl

module _ {T : Type 0} (p : Job T) (laws : Lawful p) where
  open p use {setting as j}

  -- the row and the column of a place
  pub place_of : (s : ℕ) → s < squares p → place p (s / p.columns) (s % p.columns) ≡ s
  place_of s l =
      let inside : s < p.rows * p.columns = subst (λ n. s < n) laws.size l in
      let wide : 0 < p.columns = wide_enough p.rows p.columns s inside in
      cond-true _ _ _ (and_from _ _ (lt-ltb _ _ (div_below s p.columns p.rows wide inside)) (lt-ltb _ _ (mod_below s p.columns wide)))
      ∙ div-add-mod' s p.columns

  model_fix : (row column : ℕ) (F : ℕ → Bool) → refusal j.squares F (place p row column) ≡ 0 → ((on_set p).fix row column F).answer ≡ Code (code j (place p row column))
  model_fix row column F e = ap (λ n. (fix_at {T = T} n (code j (place p row column)) (add F (place p row column)) F).answer) e

  pub whole : (cs : List Call) (o : Pools T) → run (step p) cs (opened j) o ≡ carry_ran (bands j) (run (model p) cs none o)
  whole cs o = ap (λ b. run (step p) cs b o) (opened_is j laws.setting) ∙ (ran p laws cs none o (λ s d t l ld h e. h)).0

  pub after_closed : (cs : List Call) (o : Pools T) → Closed j.squares (fixed_after p cs o)
  after_closed cs o = (ran p laws cs none o (λ s d t l ld h e. h)).1

  pub bands_are : (cs : List Call) (o : Pools T) → bands_after p cs o ≡ bands j (fixed_after p cs o)
  bands_are cs o = ap (λ r. r.state) (whole cs o)

  pub holds_after : (cs : List Call) (o : Pools T) → HoldsAfter p cs o
  unfolding code_at
  holds_after cs o =
      let F = fixed_after p cs o in
      let b = bands_after p cs o in
      let same : b ≡ bands j F = bands_are cs o in
      let closed : Closed j.squares F = after_closed cs o in
      let total = keeps_total j laws.setting F closed in
      let lists : ListsLosses j F = lists_losses j laws.setting F in
      record {
        whole = whole cs o;
        closed = closed;
        codes = λ s l. ap (λ x. get_or x.codes s 255) same ∙ read s l;
        errors = λ s l h. ap (λ x. get_or x.amounts s j.algebra.zero) same ∙ amount_read j F s l ∙ amount-fixed j F s h;
        rest = λ s l h. ap (λ x. get_or x.amounts s j.algebra.zero) same ∙ amount_read j F s l ∙ amount_open j F s h;
        total = total.kept
            ∙ ap₂ j.algebra.sum
            (ap₂ j.algebra.sum (sym total.outputs ∙ ap (output_total j) (sym same)) (sym lists.sum ∙ ap (λ x. sum_of j.algebra (loss_errors j x)) (sym same)))
            (sym total.amounts ∙ ap (open_total j) (sym same));
        rising = subst (λ x. (i k : ℕ) → i < k → k < length (loss_places j x) → get_or (loss_places j x) i 0 < get_or (loss_places j x) k 0) (sym same) lists.rising;
        listed = λ s l h q. subst (λ x. Has (loss_places j x) s) (sym same) (lists.has s l h q);
        only = λ s h. lists.only s (subst (λ x. Has (loss_places j x) s) same h);
        lost = subst (λ x. loss_errors j x ≡ map (error j) (loss_places j x)) (sym same) lists.errors;
        next = λ s l lacks.
            let k = some_ready j.squares laws.setting.squares F s l lacks in
            let t = k.0 in
            let row = t / p.columns in
            let column = t % p.columns in
            let here : place p row column ≡ t = place_of t k.1.inside in (
              row,
              column,
              code j (place p row column),
              ap (λ x. ((on_bands p).fix row column x).answer) same
                  ∙ ap (λ d. d.answer) ((agrees p laws F closed).fix row column)
                  ∙ model_fix row column F (ap (refusal j.squares F) here ∙ fix_accepted j.squares F t k.1),
            );
        finished = λ s l.
            let all : bands_after p (cs ++ Finish ∷ []) o ≡ bands j every =
            bands_are (cs ++ Finish ∷ []) o ∙ ap (bands j) (run-append (model p) cs (Finish ∷ []) none o ∙ run_finish p _ _) in
            ap (λ x. standing x.codes s) all ∙ standing_is j every laws.setting.tables s l;
      }
    where
      read : (s : ℕ) → s < squares p → get_or (codes j (fixed_after p cs o)) s 255 ≡ cond (fixed_after p cs o s) (code j s) 255
      read s l = code_read j (fixed_after p cs o) s l

  -- bands of any content
  pub fills : (b : Bands T) → fits p b ≡ true → Fills p b
  fills b fit =
      let n = squares p in
      let long : length b.codes ≡ n = eqb-true (length b.codes) n (and_parts (eqb (length b.amounts) n) (eqb (length b.codes) n) (and_parts (eqb p.given n) _ fit).1).1 in
      let k = sweeps.fills j laws.setting p.top laws.capped b long in
      let made = cond-true (fits p b) (told (Count (swept_in j every b (suc p.top))) (sweep_in j every b (suc p.top))) _ fit in
      record {
        number = ap (λ x. x.answer) made ∙ ap Count k.number;
        all = λ s l. ap (λ x. standing x.state.codes s) made ∙ ap not (ne_eqb _ 255 (k.fixed s l));
      }

pub same-bands : {T : Type 0} (p q : Job T) → Lawful p → Lawful q → Alike p.setting q.setting → (cs ds : List Call) (o u : Pools T)
    → ((s : ℕ) → s < squares p → fixed_after p cs o s ≡ fixed_after q ds u s) → bands_after p cs o ≡ bands_after q ds u
same-bands p q lp lq alike cs ds o u h =
    bands_are p lp cs o
    ∙ bands-same p.setting lp.setting.squares (fixed_after p cs o) (fixed_after q ds u) h
    ∙ (same_draft p.setting q.setting lp.setting.squares alike).bands (fixed_after q ds u)
    ∙ sym (bands_are q lq ds u)
