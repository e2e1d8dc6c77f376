-- Every call on the bands of a closed set does what the model does, and so does every list of calls.
use Rattle.std.proofs.Common.{◌≡◌, ℕ, zero, suc, ◌<◌, Bool, true, false, cond, not, ◌||◌, eqb, List, [], ◌∷◌, map, get_or, Decides, sym, refl, ap, ◌∙◌, ap₂, arith}
use mathlib.Core.Bool.{false≢true}
use Rattle.std.proofs.lemmas.List.FromFn.{length-map-range_with_len}
use Rattle.std.proofs.lemmas.Bool.{cond-true, eq-eqb, eqb-true, and_from}
use Rattle.std.proofs.lemmas.Bool.Decides.{Decides-below_and, Decides-like}
use Rattle.diffusion.specs.Bands.{Bands, bands, code_at, amount_at, amounts, fixed_in}
use Rattle.diffusion.specs.Draft.{code, error}
use Rattle.diffusion.specs.Neighbourhoods.{Neighbourhood}
use Rattle.diffusion.specs.Sets.{add, ready_by, Closed, Ready}
use Rattle.diffusion.specs.Tallies.{drawing_total, lost, loss_places}
use Rattle.diffusion.proofs.BandSweeps.{finishes}
use Rattle.diffusion.proofs.Conserved.{outputs_are, losses_are, open_are}
use Rattle.diffusion.proofs.Lost.{lost-same, lists_losses}
use Rattle.diffusion.proofs.SetBands.{decides_ready, standing_is, fix_adds}
use Rattle.model.specs.Calls.{Call, Told, told, Pools, Done, done, carry_told, carry, fix_at, list_at, keep_pools, fill_bytes, fill_lists, inside}
use Rattle.model.specs.Calls.Answer.{Code, Followed, Count, Resumed, Totals}
use Rattle.model.specs.Calls.Call.{Fix, Follow, Finish, Halt, Resume, Tally, Losses}
use Rattle.model.specs.Fixes as fixes
use Rattle.model.specs.Fixes.{refusal}
use Rattle.model.specs.Jobs.{Job, Lawful, squares, place, fits}
use Rattle.model.specs.Records.{stands, all_below, well_formed, closed_by, right_codes, record_refusal}
use Rattle.model.specs.Runs.{run, carry_ran, ran_more}
use Rattle.model.specs.Steps.{step, model}
use Rattle.model.specs.Theorems.{Agrees}
use Rattle.model.proofs.Followed.{accepted, refusal_is, follows}

-- a function of the state, past a cond
carry_cond : {T S R : Type 0} (f : S → R) (b : Bool) (x y : Told T S) → carry_told f (cond b x y) ≡ cond b (carry_told f x) (carry_told f y)
carry_cond f true x y = refl
carry_cond f false x y = refl

state_cond : {T S : Type 0} (b : Bool) (x y : Told T S) (P : S → Type 0) → (b ≡ true → P x.state) → (b ≡ false → P y.state) → P (cond b x y).state
state_cond true x y P f g = f refl
state_cond false x y P f g = g refl

pub decides_all : (p : ℕ → Bool) (P : ℕ → Type 0) → ((s : ℕ) → Decides (p s) (P s)) → (n : ℕ) → Decides (all_below p n) ((s : ℕ) → s < n → P s)
unfolding all_below
decides_all p P each n = Decides-below_and p P (all_below p) each refl (λ m. refl) n

pub decides_unless : (b : Bool) (q : Bool) (Q : Type 0) → Decides q Q → Decides (not b || q) (b ≡ true → Q)
decides_unless true q Q d = (λ e h. d.0 e, λ f. d.1 (f refl))
decides_unless false q Q d = (λ e h. absurd (false≢true h), λ f. refl)

-- the test of a map tells whether its squares are closed
pub decides_closed : (squares : Neighbourhood) (F : ℕ → Bool) → Decides (closed_by squares F) (Closed squares F)
decides_closed squares F = Decides-like (closed_by squares F) (λ h s d t l ld w e. h s l w d t ld e) (λ h s l w d t ld e. h s d t l ld w e)
    (decides_all (λ s. not (F s) || ready_by squares F s 8) (λ s. F s ≡ true → Ready squares F s) (λ s. decides_unless (F s) _ _ (decides_ready squares F s)) squares.count)

module _ {T : Type 0} (p : Job T) (laws : Lawful p) where
  open p use {setting as j}

  pub fits_all : (F : ℕ → Bool) → fits p (bands j F) ≡ true
  fits_all F = and_from _ _ (eq-eqb p.given (squares p) laws.whole)
      (and_from _ _ (eq-eqb _ _ (length-map-range_with_len (amount_at j F) 0 (squares p))) (eq-eqb _ _ (length-map-range_with_len (code_at j F) 0 (squares p))))

  fixing : (s : ℕ) (F : ℕ → Bool) → Closed j.squares F → (n : ℕ) → refusal j.squares F s ≡ n
      → (fix_at {T = T} n (j.tables.choice (get_or (amounts j F) s j.algebra.zero)) (fixed_in j s (bands j F)) (bands j F) ≡ carry_told (bands j) (fix_at n (code j s) (add F s) F))
      × Closed j.squares (fix_at {T = T} n (code j s) (add F s) F).state
  fixing s F closed zero e =
      let one = fix_adds j laws.setting F closed s (accepted j.squares F s e) in
      (ap₂ (λ c b. told (Code c) b) (ap j.tables.choice one.held) one.made, one.closed)
  fixing s F closed (suc n) e = (refl, closed)

  -- an accepted record's standing squares are closed
  pub resumed_closed : (rec : List ℕ) → record_refusal p rec ≡ 0 → Closed j.squares (stands rec)
  unfolding record_refusal
  resumed_closed rec e = go (well_formed p rec) (closed_by j.squares (stands rec)) refl e
    where
      go : (a b : Bool) → closed_by j.squares (stands rec) ≡ b → ◌≡◌ {A = ℕ} (cond a (cond b (cond (right_codes j rec) 0 9) 8) 7) 0 → Closed j.squares (stands rec)
      go false b q h = absurd (omega arith)
      go true false q h = absurd (omega arith)
      go true true q h = (decides_closed j.squares (stands rec)).0 q

  fit : {X : Type 0} (F : ℕ → Bool) (x y : X) → cond (fits p (bands j F)) x y ≡ x
  fit F x y = cond-true (fits p (bands j F)) x y (fits_all F)

  pub agrees : (F : ℕ → Bool) → Closed j.squares F → Agrees p F
  agrees F closed = record {
    fix = λ row column.
        let s = place p row column in
        fit F _ _
        ∙ ap (λ n. fix_at n (j.tables.choice (get_or (amounts j F) s j.algebra.zero)) (fixed_in j s (bands j F)) (bands j F)) (refusal_is j laws.setting F s)
        ∙ (fixing s F closed (refusal j.squares F s) refl).0;
    fix_closed = λ row column. (fixing (place p row column) F closed (refusal j.squares F (place p row column)) refl).1;
    follow = λ ps. fit F _ _ ∙ ap (λ (r : fixes.Followed (Bands T)). told (Followed r.count r.refusal) r.state) (follows j laws.setting F closed ps).0;
    follow_closed = λ ps. (follows j laws.setting F closed ps).1;
    finish = let k = finishes j laws.setting p.top laws.capped F closed in fit F _ _ ∙ ap₂ (λ n b. told (Count n) b) k.number k.made;
    finish_closed = λ s d t l ld h e. refl;
    halt = λ out. fit F _ _;
    resume = λ rec.
        let n = record_refusal p rec in
        fit F _ _ ∙ sym (carry_cond (bands j) (eqb n 0) _ _ ∙ ap (cond (eqb n 0) (told Resumed (bands j (stands rec)))) (carry_cond (bands j) (eqb n 9) _ _));
    resume_closed = λ rec.
        let n = record_refusal p rec in
        state_cond {T = T} (eqb n 0) _ _ (Closed j.squares) (λ e. resumed_closed rec (eqb-true n 0 e))
        (λ e. state_cond {T = T} (eqb n 9) _ _ (Closed j.squares) (λ q s d t l ld h k. h) (λ q. closed));
    tally = fit F _ _ ∙ (λ i. Totals (drawing_total j) (outputs_are j laws.setting.tables F i) (losses_are j laws.setting.tables F i) (open_are j laws.setting.tables F i));
    losses = λ places errors.
        let same : loss_places j (bands j F) ≡ lost j.squares F (squares p) = lost-same j.squares _ F (squares p) (standing_is j F laws.setting.tables) in
        fit F _ _
        ∙ ap (λ es. list_at (loss_places j (bands j F)) es places errors) (lists_losses j laws.setting F).errors
        ∙ ap (λ qs. list_at qs (map (error j) qs) places errors) same;
  }

  pub stepped : (c : Call) (F : ℕ → Bool) (o : Pools T) → Closed j.squares F
      → (step p c (bands j F) o ≡ carry (bands j) (model p c F o)) × Closed j.squares (model p c F o).state
  stepped (Fix row column) F o closed = let k = agrees F closed in (ap (keep_pools o) (k.fix row column), k.fix_closed row column)
  stepped (Follow ps) F o closed = let k = agrees F closed in (ap (keep_pools o) (k.follow ps), k.follow_closed ps)
  stepped Finish F o closed = let k = agrees F closed in (ap (keep_pools o) k.finish, k.finish_closed)
  stepped (Halt w) F o closed = let k = agrees F closed in (ap (fill_bytes (bands j F) w o) (k.halt (inside w o.bytes)), closed)
  stepped (Resume rec) F o closed = let k = agrees F closed in (ap (keep_pools o) (k.resume rec), k.resume_closed rec)
  stepped Tally F o closed = let k = agrees F closed in (ap (λ a. done a (bands j F) o) k.tally, closed)
  stepped (Losses w v) F o closed = let k = agrees F closed in (ap (fill_lists (bands j F) w v o) (k.losses (inside w o.places) (inside v o.errors)), closed)

  pub ran : (cs : List Call) (F : ℕ → Bool) (o : Pools T) → Closed j.squares F
      → (run (step p) cs (bands j F) o ≡ carry_ran (bands j) (run (model p) cs F o)) × Closed j.squares (run (model p) cs F o).state
  unfolding run
  ran [] F o closed = (refl, closed)
  ran (c ∷ cs) F o closed =
      let k = stepped c F o closed in
      let m = model p c F o in
      let r = ran cs m.state m.pools k.1 in (
        ap (λ (d : Done T (Bands T)). ran_more d.answer (run (step p) cs d.state d.pools)) k.0
            ∙ ap (ran_more m.answer) r.0,
        r.1,
      )
