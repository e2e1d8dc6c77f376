-- Records and lists of calls: Resume accepts a record just when a list of calls ends where Halt writes it.
use Rattle.std.proofs.Common.{◌≡◌, ℕ, suc, Bool, true, false, cond, eqb, ltb, List, [], ◌∷◌, ◌++◌, length, sym, refl, ap, ◌∙◌, arith}
use Rattle.std.proofs.lemmas.List.{drop_all, append-nil}
use Rattle.std.proofs.lemmas.Bool.{cond-true, cond-false, le-ltb, eqb-true}
use Rattle.diffusion.specs.Bands.{Bands, bands, codes}
use Rattle.diffusion.specs.Draft as draft
use Rattle.diffusion.specs.Draft.{Setting}
use Rattle.diffusion.specs.Sets.{none, Closed}
use Rattle.diffusion.specs.Sweeps.{sweep, sweep_in}
use Rattle.diffusion.specs.Theorems.{Capped}
use Rattle.diffusion.proofs.BandSweeps.{sweep-bands, replays}
use Rattle.diffusion.proofs.SetBands.{bands-same, opened_is}
use Rattle.model.specs.Calls.{Call, Told, told, wrote, Pools, resume_at}
use Rattle.model.specs.Calls.Answer.{Count, Resumed, Refused}
use Rattle.model.specs.Calls.Call.{Follow}
use Rattle.model.specs.Fixes.{follow}
use Rattle.model.specs.Jobs.{Job, Lawful, fits}
use Rattle.model.specs.Records.{record_of, stands, record_refusal}
use Rattle.model.specs.Runs.{run}
use Rattle.model.specs.Steps.{on_bands}
use Rattle.model.specs.Theorems.{fixed_after, bands_after, record_after, Bytes, AcceptsWhatIsWritten}
use Rattle.model.proofs.Agreed.{fits_all, resumed_closed}
use Rattle.model.proofs.Kept.{bands_are, after_closed}
use Rattle.model.proofs.Reached.{reached}
use Rattle.model.proofs.Recorded.{stands_are, written_accepted, rebuilt}

-- a sweep of just the squares of a closed set, begun with none, ends with them
swept_up : {T : Type 0} (j : Setting T) → draft.Lawful j → (top : ℕ) → Capped j.squares top → (F : ℕ → Bool) → Closed j.squares F
    → bands j (sweep j.squares F none (suc top)) ≡ bands j F
swept_up j lawful top capped F closed =
    sym (sweep-bands j lawful F none (λ s d t l ld h e. h) (suc top)).0
    ∙ ap (λ b. sweep_in j F b (suc top)) (sym (opened_is j lawful))
    ∙ (replays j lawful top capped F closed).made

after-follow : {T : Type 0} (p : Job T) (ps : List ℕ) (o : Pools T) → fixed_after p (Follow ps ∷ []) o ≡ (follow p.setting.squares none ps).state
unfolding run
after-follow p ps o = refl

-- only a record that is not refused is resumed
resumed_zero : {T S : Type 0} (n : ℕ) (after new s : S) → (resume_at {T = T} n after new s).answer ≡ Resumed → n ≡ 0
resumed_zero {T} n after new s = go (eqb n 0) refl (eqb n 9)
  where
    go : (a : Bool) → eqb n 0 ≡ a → (b : Bool) → (cond a (told {T = T} Resumed after) (cond b (told (Refused n) new) (told (Refused n) s))).answer ≡ Resumed → n ≡ 0
    go true e b h = eqb-true n 0 e
    go false e true h = let z : ◌≡◌ {A = ℕ} 0 1 = cc in absurd (omega arith)
    go false e false h = let z : ◌≡◌ {A = ℕ} 0 1 = cc in absurd (omega arith)

module _ {T : Type 0} (p : Job T) (laws : Lawful p) where
  open p use {setting as j}

  -- an accepted record is written after a list of places
  followed : (rec : List ℕ) → Bytes rec → record_refusal p rec ≡ 0 → (o : Pools T) → (ps : List ℕ) × (record_after p (Follow ps ∷ []) o ≡ rec)
  followed rec small e o =
      let k = reached j.squares (stands rec) none (suc p.top) in
      let same : bands_after p (Follow k.0 ∷ []) o ≡ bands j (stands rec) =
      bands_are p laws (Follow k.0 ∷ []) o
      ∙ ap (bands j) (after-follow p k.0 o ∙ k.1)
      ∙ swept_up j laws.setting p.top laws.capped (stands rec) (resumed_closed p laws rec e) in
      (k.0, ap (λ (b : Bands T). record_of p.rows p.columns b.codes) same ∙ rebuilt p laws rec small e)

  record_is : (cs : List Call) (o : Pools T) → record_after p cs o ≡ record_of p.rows p.columns (codes j (fixed_after p cs o))
  record_is cs o = ap (λ (b : Bands T). record_of p.rows p.columns b.codes) (bands_are p laws cs o)

  accepts : (cs : List Call) (o : Pools T) → record_refusal p (record_after p cs o) ≡ 0
  accepts cs o = ap (record_refusal p) (record_is cs o) ∙ written_accepted p laws (fixed_after p cs o) (after_closed p laws cs o)

  back : (cs : List Call) (o : Pools T) (b : Bands T) → fits p b ≡ true → (on_bands p).resume (record_after p cs o) b ≡ told Resumed (bands_after p cs o)
  back cs o b fit =
      let rec = record_after p cs o in
      let F = fixed_after p cs o in
      let same : bands j (stands rec) ≡ bands_after p cs o =
      ap (λ r. bands j (stands r)) (record_is cs o)
      ∙ bands-same j laws.setting.squares _ F (stands_are p laws F)
      ∙ sym (bands_are p laws cs o) in
      cond-true (fits p b) _ _ fit
      ∙ ap (λ n. resume_at n (bands j (stands rec)) (bands j none) b) (accepts cs o)
      ∙ ap (λ x. told Resumed x) same

  halts : (cs : List Call) (o : Pools T) (out : List ℕ) → length out ≡ length (record_after p cs o)
      → (on_bands p).halt (bands_after p cs o) out ≡ wrote (Count (length (record_after p cs o))) (record_after p cs o)
  halts cs o out e =
      let rec = record_after p cs o in
      let F = fixed_after p cs o in
      cond-true (fits p (bands_after p cs o)) _ _ (ap (fits p) (bands_are p laws cs o) ∙ fits_all p laws F)
      ∙ cond-false (ltb (length out) (length rec)) _ _ (le-ltb (length out) (length rec) (omega arith))
      ∙ ap (λ xs. wrote (Count (length rec)) (rec ++ xs)) (drop_all (length rec) out (omega arith))
      ∙ ap (wrote (Count (length rec))) (append-nil rec)

  pub accepts_what_is_written : AcceptsWhatIsWritten p
  accepts_what_is_written = record {
    written = λ rec small b fit h.
        followed rec small (resumed_zero {T = T} (record_refusal p rec) (bands j (stands rec)) (bands j none) b (sym (ap (λ (x : Told T (Bands T)). x.answer) (cond-true (fits p b) _ _ fit)) ∙ h));
    accepted = accepts;
    halts = halts;
    back = back;
  }
