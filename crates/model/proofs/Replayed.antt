-- The squares of a closed set, worked again by rank and place.
use Rattle.std.proofs.Common.{◌≡◌, ℕ, zero, suc, ◌<◌, ◌≤◌, Bool, true, false, cond, ◌&&◌, ◌||◌, eqb, ltb, List, get_or, Some, None, Option, sym, refl, ap, ◌∙◌, subst, inl, inr, arith}
use Rattle.std.proofs.lemmas.Bool.{cases_eq, eq-eqb, eqb-true, eqb-false, lt-ltb, ltb-true, and_parts, and_from, and_left, and_right, and_cases, or_cases, or_left, or_right, both_ways}
use Rattle.std.proofs.lemmas.Bool.Decides.{nat_tests}
use Rattle.diffusion.specs.Bands.{opened, amounts, standing}
use Rattle.diffusion.specs.Draft.{amount, code}
use Rattle.diffusion.specs.Neighbourhoods.{Neighbourhood}
use Rattle.diffusion.specs.Sets.{none, add, Closed, Ready}
use Rattle.diffusion.specs.Theorems.{Fixes}
use Rattle.diffusion.proofs.Fixing.{add_same, add_other}
use Rattle.diffusion.proofs.Neighbours.{lower_near}
use Rattle.diffusion.proofs.SetBands.{bands-same, opened_is, fix_adds}
use Rattle.model.specs.Jobs.{Job, Lawful, squares}
use Rattle.model.specs.Replays.{settle, replay_at, replay_visit, replay_sweep, replay}
use Rattle.model.specs.Theorems.{Replays}

module _ (squares : Neighbourhood) (W : ℕ → Bool) where
  -- the wanted squares of a rank below r, and those of rank r at a place below n
  abbrev pub before : ℕ → ℕ → ℕ → Bool
  before r n s = W s && (ltb (squares.rank s) r || (eqb (squares.rank s) r && ltb s n))

  before_from : (r n s : ℕ) → W s ≡ true → squares.rank s < r → before r n s ≡ true
  before_from r n s w l = and_from _ _ w (or_left _ _ (lt-ltb _ _ l))

  before_rank : (r n s : ℕ) → before r n s ≡ true → (W s ≡ true) × (squares.rank s ≤ r)
  before_rank r n s h =
      let k = and_parts (W s) (ltb (squares.rank s) r || (eqb (squares.rank s) r && ltb s n)) h in (
        k.0,
        elim (or_cases (ltb (squares.rank s) r) (eqb (squares.rank s) r && ltb s n) k.1) [
          | inl a ↦ (let z = ltb-true _ _ a in omega arith)
          | inr a ↦ (let z = eqb-true _ _ (and_parts (eqb (squares.rank s) r) (ltb s n) a).0 in omega arith)
        ],
      )

  -- rank r done is rank r + 1 begun
  before_next : (r s : ℕ) → s < squares.count → before r squares.count s ≡ before (suc r) 0 s
  before_next r s l = ap (λ b. W s && b) (grind (arith, nat_tests))

  before_none : (s : ℕ) → before 0 0 s ≡ false
  before_none s = and_right (W s) _ (grind (arith, nat_tests))

  -- the place n of rank r
  before_here : (r n : ℕ) → squares.rank n ≡ r → before r n n ≡ false
  before_here r n e = and_right (W n) _ (grind (arith, nat_tests))

  before_other : (r n s : ℕ) → (s ≡ n → ⊥) → before r (suc n) s ≡ before r n s
  before_other r n s ne = ap (λ b. W s && b) (grind (arith, nat_tests))

  before_skip : (r n s : ℕ) → (eqb (squares.rank n) r && W n) ≡ false → before r (suc n) s ≡ before r n s
  before_skip r n s skip = elim (cases_eq s n) [
    | inr ne ↦ before_other r n s ne
    | inl e ↦ elim (and_cases (eqb (squares.rank n) r) (W n) skip) [
      | inl a ↦ (let q : eqb (squares.rank s) r ≡ false = ap (λ t. eqb (squares.rank t) r) e ∙ a in
          ap (λ b. W s && (ltb (squares.rank s) r || (b && ltb s (suc n)))) q ∙ sym (ap (λ b. W s && (ltb (squares.rank s) r || (b && ltb s n))) q))
      | inr a ↦ (let q : W s ≡ false = ap W e ∙ a in and_left (W s) _ q ∙ sym (and_left (W s) _ q))
    ]
  ]

  before_add : (r n s : ℕ) → squares.rank n ≡ r → W n ≡ true → add (before r n) n s ≡ before r (suc n) s
  before_add r n s e w = elim (cases_eq s n) [
    | inr ne ↦ add_other (before r n) n s ne ∙ sym (before_other r n s ne)
    | inl q ↦ add_same (before r n) n s q
        ∙ sym (and_from (W s) _ (ap W q ∙ w) (or_right _ _ (and_from _ _ (eq-eqb _ _ (ap squares.rank q ∙ e)) (lt-ltb _ _ (omega arith)))))
  ]

  module _ (wanted : Closed squares W) where
    before_closed : (r n : ℕ) → Closed squares (before r n)
    before_closed r n s d t l ld h e =
        let k = before_rank r n s h in
        let low = (lower_near squares s d t e).1 in
        before_from r n t (wanted s d t l ld k.0 e) (omega (arith, k.1, low))

    before_ready : (r n s : ℕ) → s < squares.count → W s ≡ true → squares.rank s ≡ r → Ready squares (before r n) s
    before_ready r n s l w q d t ld e =
        let low = (lower_near squares s d t e).1 in
        before_from r n t (wanted s d t l ld w e) (omega (arith, low))

module _ {T : Type 0} (p : Job T) (laws : Lawful p) (cs : List ℕ) (wanted : Closed p.setting.squares (standing cs)) where
  open p use {setting as j}

  abbrev W : ℕ → Bool
  W = standing cs

  abbrev G : ℕ → ℕ → ℕ → Bool
  G r n = before j.squares W r n

  abbrev Right : (ℕ → Bool) → Type 0
  Right F = (s : ℕ) → s < squares p → F s ≡ true → get_or cs s 255 ≡ code j s

  -- the amounts of the set, and its codes are right; or some code of the wanted is wrong
  abbrev Stands : (ℕ → Bool) → Option (List T) → Type 0
  Stands F None = Right W → ⊥
  Stands F (Some xs) = (xs ≡ amounts j F) × Right F

  stands_same : (F H : ℕ → Bool) → ((s : ℕ) → s < squares p → F s ≡ H s) → (o : Option (List T)) → Stands F o → Stands H o
  stands_same F H h None k = k
  stands_same F H h (Some xs) k = (k.0 ∙ ap (λ b. b.amounts) (bands-same j laws.setting.squares F H h), λ s l e. k.1 s l (h s l ∙ e))

  -- the place n of rank r may be fixed when its turn comes
  once : (r n : ℕ) → n < squares p → j.squares.rank n ≡ r → W n ≡ true → Fixes j (G r n) n
  once r n l e w = fix_adds j laws.setting (G r n) (before_closed j.squares W wanted r n) n
      (record { inside = l; lacks = before_here j.squares W r n e; ready = before_ready j.squares W wanted r n n l w e })

  visit-stands : (r n : ℕ) → n < squares p → (o : Option (List T)) → Stands (G r n) o → Stands (G r (suc n)) (replay_visit j cs r n o)
  visit-stands r n l None k = k
  visit-stands r n l (Some xs) k = go (eqb (j.squares.rank n) r && W n) refl
    where
      again : (b : Bool) → j.squares.rank n ≡ r → W n ≡ true → eqb (code j n) (get_or cs n 255) ≡ b
          → Stands (G r (suc n)) (cond b (Some (settle j n (amount j n) (amounts j (G r n)))) None)
      again true e w q =
          let one = once r n l e w in (
            ap (λ a. settle j n a (amounts j (G r n))) (sym one.held)
                ∙ ap (λ b. b.amounts) one.made
                ∙ ap (λ b. b.amounts) (bands-same j laws.setting.squares (add (G r n) n) (G r (suc n)) (λ s h. before_add j.squares W r n s e w)),
            λ s h m. elim (cases_eq s n) [
              | inl z ↦ ap (λ t. get_or cs t 255) z ∙ sym (eqb-true _ _ q) ∙ ap (code j) (sym z)
              | inr ne ↦ k.1 s h (sym (before_other j.squares W r n s ne) ∙ m)
            ],
          )
      again false e w q = λ right. eqb-false _ _ q (sym (right n l w))

      go : (b : Bool) → (eqb (j.squares.rank n) r && W n) ≡ b → Stands (G r (suc n)) (cond b (replay_at j cs n xs) (Some xs))
      go true q =
          let m = and_parts (eqb (j.squares.rank n) r) (W n) q in
          let e = eqb-true _ _ m.0 in
          subst (λ ys. Stands (G r (suc n)) (replay_at j cs n ys)) (sym k.0)
          (subst (λ a. Stands (G r (suc n)) (cond (eqb (j.tables.choice a) (get_or cs n 255)) (Some (settle j n a (amounts j (G r n)))) None)) (sym (once r n l e m.1).held)
          (again (eqb (code j n) (get_or cs n 255)) e m.1 refl))
      go false q = stands_same (G r n) (G r (suc n)) (λ s h. sym (before_skip j.squares W r n s q)) (Some xs) k

  sweep-stands : (r : ℕ) (o : Option (List T)) → Stands (G r 0) o → (n : ℕ) → n ≤ squares p → Stands (G r n) (replay_sweep j cs r o n)
  unfolding replay_sweep
  sweep-stands r o k zero l = k
  sweep-stands r o k (suc n) l = visit-stands r n (omega arith) (replay_sweep j cs r o n) (sweep-stands r o k n (omega arith))

  replay-stands : (o : Option (List T)) → Stands (G 0 0) o → (r : ℕ) → Stands (G r 0) (replay j cs o r)
  unfolding replay
  replay-stands o k zero = k
  replay-stands o k (suc r) = stands_same (G r (squares p)) (G (suc r) 0) (λ s l. before_next j.squares W r s l) _
      (sweep-stands r (replay j cs o r) (replay-stands o k r) (squares p) (omega arith))

  ends : Stands W (replay j cs (Some (opened j).amounts) (suc p.top))
  ends = stands_same (G (suc p.top) 0) W
      (λ s l. all s l (W s) refl)
      _ (replay-stands (Some (opened j).amounts) (
        ap (λ b. b.amounts) (opened_is j laws.setting ∙ bands-same j laws.setting.squares none (G 0 0) (λ s l. sym (before_none j.squares W s))),
        λ s l e. absurd (both_ways _ (before_none j.squares W s) e),
      ) (suc p.top))
    where
      all : (s : ℕ) → s < squares p → (b : Bool) → W s ≡ b → G (suc p.top) 0 s ≡ W s
      all s l true e = before_from j.squares W (suc p.top) 0 s e (omega (arith, laws.capped s l)) ∙ sym e
      all s l false e = and_left (W s) _ e ∙ sym e

  pub replays : Replays p cs
  replays = record {
    right = λ h. yes' (replay j cs (Some (opened j).amounts) (suc p.top)) ends h;
    wrong = λ h. no' (replay j cs (Some (opened j).amounts) (suc p.top)) ends h;
  }
    where
      yes' : (o : Option (List T)) → Stands W o → Right W → o ≡ Some (amounts j W)
      yes' None k h = absurd (k h)
      yes' (Some xs) k h = ap Some k.0

      no' : (o : Option (List T)) → Stands W o → (Right W → ⊥) → o ≡ None
      no' None k h = refl
      no' (Some xs) k h = absurd (h k.1)
