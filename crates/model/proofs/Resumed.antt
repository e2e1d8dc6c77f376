-- Resume by a replay is Resume by the definition.
use Rattle.std.proofs.Common.{◌≡◌, ℕ, suc, ◌<◌, Bool, true, false, cond, not, eqb, List, get_or, Some, None, Option, sym, refl, ap, ◌∙◌, inl, inr, arith}
use Rattle.std.proofs.lemmas.Bool.{cases_Bool, cond-true, ne_eqb, both_ways}
use Rattle.diffusion.specs.Bands.{bands, opened, code_at, codes, amounts, standing}
use Rattle.diffusion.specs.Draft.{amount, code}
use Rattle.diffusion.specs.Sets.{Closed}
use Rattle.diffusion.proofs.SetBands.{counted_same, bands-same}
use Rattle.model.specs.Jobs.{Job, Lawful, squares}
use Rattle.model.specs.Records.{stands, code_in, well_formed, closed_by, right_codes, record_refusal}
use Rattle.model.specs.Replays.{codes_in, replay}
use Rattle.model.specs.Theorems.{Resumes}
use Rattle.model.proofs.Agreed.{decides_closed}
use Rattle.model.proofs.OneMore.{get_or-codes_in}
use Rattle.model.proofs.Recorded.{decides_codes, closed_same}
use Rattle.model.proofs.Replayed.{replays}

module _ {T : Type 0} (p : Job T) (laws : Lawful p) (rec : List ℕ) (formed : well_formed p rec ≡ true) (closed : closed_by p.setting.squares (stands rec) ≡ true) where
  open p use {setting as j}

  abbrev n : ℕ
  n = squares p

  abbrev cs : List ℕ
  cs = codes_in n rec

  refused : right_codes j rec ≡ false → record_refusal p rec ≡ 9
  unfolding record_refusal
  refused e = rw (formed, closed, e) refl

  accepted : right_codes j rec ≡ true → record_refusal p rec ≡ 0
  unfolding record_refusal
  accepted e = rw (formed, closed, e) refl

  Full : Type 0
  Full = (s : ℕ) → s < n → stands rec s ≡ true → code_in n rec s ≡ 255 → ⊥

  standing-same : Full → (s : ℕ) → s < n → stands rec s ≡ standing cs s
  unfolding Full
  standing-same full s l = sym (ap (λ x. not (eqb x 255)) (get_or-codes_in n rec s 255 l) ∙ go (stands rec s) refl)
    where
      go : (t : Bool) → stands rec s ≡ t → not (eqb (cond t (code_in n rec s) 255) 255) ≡ t
      go true e = ap not (ne_eqb _ 255 (full s l e))
      go false e = refl

  abbrev Right : Type 0
  Right = (s : ℕ) → s < n → standing cs s ≡ true → get_or cs s 255 ≡ code j s

  right_from : Full → right_codes j rec ≡ true → Right
  right_from full e s l h =
      let t = standing-same full s l ∙ h in
      get_or-codes_in n rec s 255 l ∙ cond-true (stands rec s) _ 255 t ∙ (decides_codes j rec).0 e s l t

  right_to : Full → Right → right_codes j rec ≡ true
  right_to full h = (decides_codes j rec).1 (λ s l t. sym (get_or-codes_in n rec s 255 l ∙ cond-true (stands rec s) _ 255 t) ∙ h s l (sym (standing-same full s l) ∙ t))

  standing_closed : Full → Closed j.squares (standing cs)
  standing_closed full = closed_same j.squares laws.setting.squares (stands rec) (standing cs) (standing-same full) ((decides_closed j.squares (stands rec)).0 closed)

  codes_same : right_codes j rec ≡ true → cs ≡ codes j (stands rec)
  unfolding code_at
  codes_same e = counted_same _ (code_at j (stands rec)) n 0 (λ s l. go s l (stands rec s) refl)
    where
      go : (s : ℕ) → s < n → (t : Bool) → stands rec s ≡ t → cond t (code_in n rec s) 255 ≡ cond t (code j s) 255
      go s l true h = (decides_codes j rec).0 e s l h
      go s l false h = refl

  none_some : (xs : List T) → ◌≡◌ {A = Option (List T)} None (Some xs) → ⊥
  none_some xs e = let z : ◌≡◌ {A = ℕ} 0 1 = cc in omega arith

  some_is : Full → (xs : List T) → replay j cs (Some (opened j).amounts) (suc p.top) ≡ Some xs
      → (record_refusal p rec ≡ 0) × (bands j (stands rec) ≡ record { codes = cs; amounts = xs })
  some_is full xs e = elim (cases_Bool (right_codes j rec)) [
    | inl r ↦
        (let k = (replays p laws cs (standing_closed full)).right (right_from full r) in
        let same : xs ≡ amounts j (standing cs) = cc in
        let all : xs ≡ amounts j (stands rec) = same ∙ ap (λ x. x.amounts) (bands-same j laws.setting.squares (standing cs) (stands rec) (λ s l. sym (standing-same full s l))) in
        (accepted r, λ i. record { codes = sym (codes_same r) i; amounts = sym all i }))
    | inr r ↦ absurd (none_some xs (sym ((replays p laws cs (standing_closed full)).wrong (λ h. both_ways _ r (right_to full h))) ∙ e))
  ]

  none_is : Full → replay j cs (Some (opened j).amounts) (suc p.top) ≡ None → record_refusal p rec ≡ 9
  none_is full e = elim (cases_Bool (right_codes j rec)) [
    | inl r ↦ absurd (none_some _ (sym e ∙ (replays p laws cs (standing_closed full)).right (right_from full r)))
    | inr r ↦ refused r
  ]

  full_is : (s : ℕ) → s < n → stands rec s ≡ true → code_in n rec s ≡ 255 → record_refusal p rec ≡ 9
  full_is s l t e = elim (cases_Bool (right_codes j rec)) [
    | inl r ↦ absurd (omega (arith, (decides_codes j rec).0 r s l t, e, laws.setting.tables.within (amount j s), laws.setting.tables.few))
    | inr r ↦ refused r
  ]

  pub resumes : Resumes p rec
  unfolding Full
  resumes = record { full = full_is; some = some_is; wrong = none_is }
