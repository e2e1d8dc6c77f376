-- Fix and Follow by their refusals: on the bands of a closed set they do what they do on the set.
use Rattle.std.proofs.Common.{◌≡◌, ℕ, zero, suc, ◌<◌, Bool, true, false, cond, ltb, List, [], ◌∷◌, sym, refl, ap, ◌∙◌, ap₂, inl, inr, arith}
use Rattle.std.proofs.lemmas.Bool.{cases_lt, cond-false, lt-ltb, le-ltb, ltb-true}
use Rattle.diffusion.specs.Bands.{bands, standing}
use Rattle.diffusion.specs.Draft as draft
use Rattle.diffusion.specs.Draft.{Setting}
use Rattle.diffusion.specs.Neighbourhoods.{Neighbourhood, Laws}
use Rattle.diffusion.specs.Sets.{add, ready_by, Closed, Fixable}
use Rattle.diffusion.proofs.SetBands.{decides_ready, ready_same, standing_is, fix_adds}
use Rattle.model.specs.Fixes.{refusal, Followed, followed_by, follow, follow_in}

-- what an accepted fix tells
pub accepted : (squares : Neighbourhood) (F : ℕ → Bool) (s : ℕ) → refusal squares F s ≡ 0 → Fixable squares F s
unfolding refusal
accepted squares F s e = go (ltb s squares.count) refl (F s) refl (ready_by squares F s 8) refl e
  where
    go : (a : Bool) → ltb s squares.count ≡ a → (b : Bool) → F s ≡ b → (c : Bool) → ready_by squares F s 8 ≡ c → ◌≡◌ {A = ℕ} (cond a (cond b 4 (cond c 0 5)) 3) 0
        → Fixable squares F s
    go false p b q c r h = absurd (omega arith)
    go true p true q c r h = absurd (omega arith)
    go true p false q false r h = absurd (omega arith)
    go true p false q true r h = record { inside = ltb-true s squares.count p; lacks = q; ready = (decides_ready squares F s).0 r }

-- a square that may be fixed is accepted
pub fix_accepted : (squares : Neighbourhood) (F : ℕ → Bool) (s : ℕ) → Fixable squares F s → refusal squares F s ≡ 0
unfolding refusal
fix_accepted squares F s k = rw (lt-ltb s squares.count k.inside, k.lacks, (decides_ready squares F s).1 k.ready) refl

-- sets that agree at the squares of the drawing refuse alike
pub refusal-same : (squares : Neighbourhood) → Laws squares → (F G : ℕ → Bool) → ((t : ℕ) → t < squares.count → F t ≡ G t) → (s : ℕ) → refusal squares F s ≡ refusal squares G s
unfolding refusal
refusal-same squares laws F G h s = elim (cases_lt s squares.count) [
  | inr out ↦ cond-false (ltb s squares.count) _ 3 (le-ltb s squares.count out) ∙ sym (cond-false (ltb s squares.count) _ 3 (le-ltb s squares.count out))
  | inl l ↦ ap₂ (λ b c. cond (ltb s squares.count) (cond b 4 (cond c 0 5)) 3) (h s l) (ready_same squares laws F G h s l)
]

-- a function of the state
abbrev carry-followed : {S R : Type 0} → (S → R) → Followed S → Followed R
carry-followed f r = record { state = f r.state; count = r.count; refusal = r.refusal }

module _ {T : Type 0} (j : Setting T) (lawful : draft.Lawful j) where
  -- the bands of a set refuse what the set refuses
  pub refusal_is : (F : ℕ → Bool) (s : ℕ) → refusal j.squares (standing (bands j F).codes) s ≡ refusal j.squares F s
  refusal_is F = refusal-same j.squares lawful.squares (standing (bands j F).codes) F (standing_is j F lawful.tables)

  abbrev Follows : (ℕ → Bool) → List ℕ → Type 0
  Follows F ps = (follow_in j (bands j F) ps ≡ carry-followed (bands j) (follow j.squares F ps)) × Closed j.squares (follow j.squares F ps).state

  pub follows : (F : ℕ → Bool) → Closed j.squares F → (ps : List ℕ) → Follows F ps
  unfolding follow follow_in
  follows F closed [] = (refl, closed)
  follows F closed (s ∷ ps) = go (refusal j.squares F s) refl (λ c. follows (add F s) c ps)
    where
      go : (n : ℕ) → refusal j.squares F s ≡ n → (Closed j.squares (add F s) → Follows (add F s) ps) → Follows F (s ∷ ps)
      go zero e rest =
          let one = fix_adds j lawful F closed s (accepted j.squares F s e) in
          let more = rest one.closed in
          rw (refusal_is F s, e) (ap (λ b. followed_by b (follow_in j b ps) 0) one.made ∙ ap (λ r. followed_by (bands j F) r 0) more.0, more.1)
      go (suc n) e rest = rw (refusal_is F s, e) (refl, closed)
