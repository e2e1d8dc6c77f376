-- Among open squares, one of the lowest rank is ready.
use Rattle.std.proofs.Common.{◌≡◌, ℕ, suc, ◌<◌, ◌≤◌, Bool, true, false, ◌⊎◌, Some, None, Option, sym, refl, ap, ◌∙◌, inl, inr, arith}
use mathlib.Core.Bool.{false≢true}
use Rattle.std.proofs.lemmas.Bool.{cases_eq}
use Rattle.diffusion.specs.Neighbourhoods.{Neighbourhood, Laws, lower}
use Rattle.diffusion.specs.Sets.{Ready, Fixable}
use Rattle.diffusion.specs.Theorems.{ClosedEnds}
use Rattle.diffusion.proofs.Neighbours.{lower_near, lower-within}

module _ (squares : Neighbourhood) (F : ℕ → Bool) (s : ℕ) where
  abbrev OpenLower : Type 0
  OpenLower = (d : ℕ) × (t : ℕ) × (d < 8) × (lower squares s d ≡ Some t) × (F t ≡ false)

  one_way : (d : ℕ) → d < 8 → (o : Option ℕ) → lower squares s d ≡ o → ((t : ℕ) → lower squares s d ≡ Some t → F t ≡ true) ⊎ OpenLower
  one_way d l None e = inl (λ t h. let z : ◌≡◌ {A = ℕ} 0 1 = cc in absurd (omega arith))
  one_way d l (Some u) e = go (F u) refl
    where
      go : (b : Bool) → F u ≡ b → ((t : ℕ) → lower squares s d ≡ Some t → F t ≡ true) ⊎ OpenLower
      go true has = inl (λ t h. let same : t ≡ u = cc in ap F same ∙ has)
      go false lacks = inr (d, u, l, e, lacks)

  ways : (n : ℕ) → n ≤ 8 → ((d t : ℕ) → d < n → lower squares s d ≡ Some t → F t ≡ true) ⊎ OpenLower
  ways ℕ.zero h = inl (λ d t l. absurd (omega arith))
  ways (suc n) h = elim (ways n (omega arith)) [
    | inr found ↦ inr found
    | inl below ↦ elim (one_way n (omega arith) (lower squares s n) refl) [
      | inr found ↦ inr found
      | inl here ↦ inl (λ d t l e. elim (cases_eq d n) [
        | inl q ↦ here t (ap (lower squares s) (sym q) ∙ e)
        | inr ne ↦ below d t (omega arith) e
      ])
    ]
  ]

-- ready, or not
pub cases_ready : (squares : Neighbourhood) (F : ℕ → Bool) (s : ℕ) → Ready squares F s ⊎ OpenLower squares F s
cases_ready squares F s = ways squares F s 8 (omega arith)

module _ (squares : Neighbourhood) (laws : Laws squares) (F : ℕ → Bool) where
  descend : (n s : ℕ) → squares.rank s < n → s < squares.count → F s ≡ false → (t : ℕ) × Fixable squares F t × (squares.rank t ≤ squares.rank s)
  descend ℕ.zero s r l lacks = absurd (omega arith)
  descend (suc n) s r l lacks = elim (cases_ready squares F s) [
    | inl ready ↦ (s, record { inside = l; lacks = lacks; ready = ready }, omega arith)
    | inr found ↦
        let k = (lower_near squares s found.0 found.1 found.3).1 in
        let deep = descend n found.1 (omega arith) (lower-within squares laws s found.0 found.1 l found.2 found.3) found.4 in
        (deep.0, deep.1, omega (arith, deep.2))
  ]

  pub some_ready : (s : ℕ) → s < squares.count → F s ≡ false → (t : ℕ) × Fixable squares F t × (squares.rank t ≤ squares.rank s)
  some_ready s l lacks = descend (suc (squares.rank s)) s (omega arith) l lacks

pub closed_ends : (squares : Neighbourhood) → ClosedEnds squares
closed_ends squares = record { first = λ s d t l ld h e. absurd (false≢true h); last = λ s d t l ld h e. refl }
