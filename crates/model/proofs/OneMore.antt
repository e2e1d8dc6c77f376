-- One step more of each definition that recurs, and where it may stop early: what a loop that computes it keeps.
use Rattle.std.proofs.Common.{◌≡◌, ℕ, zero, suc, ◌+◌, ◌<◌, ◌≤◌, Bool, true, false, cond, ◌&&◌, List, length, get_or, drop, None, Option, sym, refl, ap, ◌∙◌, inl, inr, add-one, arith}
use Rattle.std.proofs.lemmas.List.FromFn.{get_or-map-range_with_len, length-map-range_with_len}
use Rattle.std.proofs.lemmas.List.{drop_all, drop_more}
use Rattle.std.proofs.lemmas.Bool.{cases_eq, and_left, and_right}
use Rattle.diffusion.specs.Bands.{Bands, standing, fixed_in}
use Rattle.diffusion.specs.Draft.{Setting}
use Rattle.model.specs.Fixes.{refusal, Followed, followed_by, follow_in}
use Rattle.model.specs.Jobs.{Job}
use Rattle.model.specs.Records.{stands, stand_below, code_in, all_below, well_formed, closed_by, record_refusal}
use Rattle.model.specs.Replays.{codes_in, replay_visit, replay_sweep, replay}

pub stand_below-none : (rec : List ℕ) → stand_below rec 0 ≡ 0
unfolding stand_below
stand_below-none rec = refl

pub stand_below_more : (rec : List ℕ) (n : ℕ) → stand_below rec (n + 1) ≡ stand_below rec n + cond (stands rec n) 1 0
unfolding stand_below
stand_below_more rec n = rw add-one refl

pub all_below-none : (p : ℕ → Bool) → all_below p 0 ≡ true
unfolding all_below
all_below-none p = refl

pub all_below_more : (p : ℕ → Bool) (n : ℕ) → all_below p (n + 1) ≡ (p n && all_below p n)
unfolding all_below
all_below_more p n = rw add-one refl

-- one that fails is enough
pub all_below_failed : (p : ℕ → Bool) (k n : ℕ) → k < n → p k ≡ false → all_below p n ≡ false
unfolding all_below
all_below_failed p k zero l e = absurd (omega arith)
all_below_failed p k (suc n) l e = elim (cases_eq k n) [
  | inl q ↦ and_left (p n) _ (ap p (sym q) ∙ e)
  | inr ne ↦ and_right (p n) _ (all_below_failed p k n (omega arith) e)
]

-- a record's codes as a band
pub length-codes_in : (n : ℕ) (rec : List ℕ) → length (codes_in n rec) ≡ n
length-codes_in n rec = length-map-range_with_len _ 0 n

pub get_or-codes_in : (n : ℕ) (rec : List ℕ) (s d : ℕ) → s < n → get_or (codes_in n rec) s d ≡ cond (stands rec s) (code_in n rec s) 255
get_or-codes_in n rec s d l = get_or-map-range_with_len (λ k. cond (stands rec k) (code_in n rec k) 255) 0 n s s d l (omega arith)

module _ {T : Type 0} (p : Job T) (rec : List ℕ) where
  pub refusal_of_form : well_formed p rec ≡ false → record_refusal p rec ≡ 7
  unfolding record_refusal
  refusal_of_form e = rw e refl

  pub refusal_of_closedness : well_formed p rec ≡ true → closed_by p.setting.squares (stands rec) ≡ false → record_refusal p rec ≡ 8
  unfolding record_refusal
  refusal_of_closedness e c = rw (e, c) refl

module _ {T : Type 0} (j : Setting T) (cs : List ℕ) where
  pub replay_sweep-none : (r : ℕ) (o : Option (List T)) → replay_sweep j cs r o 0 ≡ o
  unfolding replay_sweep
  replay_sweep-none r o = refl

  pub replay_sweep_more : (r : ℕ) (o : Option (List T)) (n : ℕ) → replay_sweep j cs r o (n + 1) ≡ replay_visit j cs r n (replay_sweep j cs r o n)
  unfolding replay_sweep
  replay_sweep_more r o n = rw add-one refl

  pub replay-none : (o : Option (List T)) → replay j cs o 0 ≡ o
  unfolding replay
  replay-none o = refl

  pub replay_more : (o : Option (List T)) (r : ℕ) → replay j cs o (r + 1) ≡ replay_sweep j cs r (replay j cs o r) j.squares.count
  unfolding replay
  replay_more o r = rw add-one refl

  -- once there is nothing, nothing comes back
  pub replay_sweep_failed : (r : ℕ) (o : Option (List T)) (k n : ℕ) → k ≤ n → replay_sweep j cs r o k ≡ None → replay_sweep j cs r o n ≡ None
  unfolding replay_sweep
  replay_sweep_failed r o k n l e = go n l
    where
      go : (n : ℕ) → k ≤ n → replay_sweep j cs r o n ≡ None
      go zero l = let z : k ≡ 0 = omega arith in ap (replay_sweep j cs r o) (sym z) ∙ e
      go (suc n) l = elim (cases_eq k (suc n)) [
        | inl q ↦ ap (replay_sweep j cs r o) (sym q) ∙ e
        | inr ne ↦ ap (replay_visit j cs r n) (go n (omega arith))
      ]

  pub replay_failed : (o : Option (List T)) (k n : ℕ) → k ≤ n → replay j cs o k ≡ None → replay j cs o n ≡ None
  unfolding replay
  replay_failed o k zero l e = let z : k ≡ 0 = omega arith in ap (replay j cs o) (sym z) ∙ e
  replay_failed o k (suc n) l e = elim (cases_eq k (suc n)) [
    | inl q ↦ ap (replay j cs o) (sym q) ∙ e
    | inr ne ↦ ap (λ x. replay_sweep j cs n x j.squares.count) (replay_failed o k n (omega arith) e)
        ∙ replay_sweep_failed n None 0 j.squares.count (omega arith) (replay_sweep-none n None)
  ]

  -- a wrong code at a place of a rank ends the whole replay
  pub replay_stops : (o : Option (List T)) (r k n : ℕ) → r < n → k ≤ j.squares.count → replay_sweep j cs r (replay j cs o r) k ≡ None → replay j cs o n ≡ None
  replay_stops o r k n l h e = replay_failed o (r + 1) n (omega arith) (replay_more o r ∙ replay_sweep_failed r (replay j cs o r) k j.squares.count h e)

-- Follow, when i places were accepted and left the bands b
module _ {T : Type 0} (j : Setting T) (start : Bands T) (ps : List ℕ) where
  abbrev pub after_more : ℕ → Followed (Bands T) → Followed (Bands T)
  after_more i r = record { state = r.state; count = i + r.count; refusal = r.refusal }

  pub record FollowedTo (i : ℕ) (b : Bands T) : Type 0 where
    pub rest : follow_in j start ps ≡ after_more i (follow_in j b (drop i ps))

  pub follow_begun : FollowedTo 0 start
  follow_begun =
      let r = follow_in j start ps in
      let same : r.count ≡ 0 + r.count = omega arith in
      record { rest = λ i. record { state = r.state; count = same i; refusal = r.refusal } }

  pub follow_next : (i : ℕ) (b : Bands T) → i < length ps → refusal j.squares (standing b.codes) (get_or ps i 0) ≡ 0
      → FollowedTo i b → FollowedTo (i + 1) (fixed_in j (get_or ps i 0) b)
  unfolding follow_in
  follow_next i b l e k =
      let s = get_or ps i 0 in
      let r = follow_in j (fixed_in j s b) (drop (i + 1) ps) in
      let same : i + (r.count + 1) ≡ i + 1 + r.count = omega arith in
      record {
        rest = k.rest
            ∙ ap (λ xs. after_more i (follow_in j b xs)) (drop_more ps i 0 l)
            ∙ ap (λ n. after_more i (followed_by b r n)) e
            ∙ (λ x. record { state = r.state; count = same x; refusal = r.refusal });
      }

  pub follow_refused : (i n : ℕ) (b : Bands T) → i < length ps → refusal j.squares (standing b.codes) (get_or ps i 0) ≡ suc n
      → FollowedTo i b → follow_in j start ps ≡ record { state = b; count = i; refusal = suc n }
  unfolding follow_in
  follow_refused i n b l e k =
      let s = get_or ps i 0 in
      let r = follow_in j (fixed_in j s b) (drop (i + 1) ps) in
      let same : i + 0 ≡ i = omega arith in
      k.rest
      ∙ ap (λ xs. after_more i (follow_in j b xs)) (drop_more ps i 0 l)
      ∙ ap (λ n. after_more i (followed_by b r n)) e
      ∙ (λ x. record { state = b; count = same x; refusal = suc n })

  pub follow_ended : (i : ℕ) (b : Bands T) → length ps ≤ i → FollowedTo i b → follow_in j start ps ≡ record { state = b; count = i; refusal = 0 }
  unfolding follow_in
  follow_ended i b l k =
      let same : i + 0 ≡ i = omega arith in
      k.rest ∙ ap (λ xs. after_more i (follow_in j b xs)) (drop_all i ps l) ∙ (λ x. record { state = b; count = same x; refusal = 0 })
