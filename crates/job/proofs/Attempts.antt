-- An attempt to fix one square, by its outcome.
use Rattle.std.proofs.Common.{◌≡◌, ℕ, suc, ◌<◌, true, false, not, ◌&&◌, ltb, List, length, get_or, sym, refl, ap, ◌∙◌, inl, inr, arith}
use Rattle.std.proofs.lemmas.List.{get_or_default}
use Rattle.std.proofs.lemmas.Bool.{eq-eqb, ne_eqb, cases_lt, lt-ltb, le-ltb, cond-true, cond-false}
use Rattle.diffusion.specs.Bands.{Bands, standing, fixed_in}
use Rattle.diffusion.specs.Draft.{Setting}
use Rattle.model.specs.Calls.{Answer, told, fix_at}
use Rattle.model.specs.Calls.Answer.{Code, Followed, Refused}
use Rattle.model.specs.Fixes as fixes
use Rattle.model.specs.Fixes.{refusal, follow_in}
use Rattle.model.specs.Jobs.{Job, squares, place, fits}
use Rattle.model.specs.Steps.{fix_on, follow_on}
use Rattle.job.specs.Single.{attempt}
use Rattle.job.proofs.Refusing.{refused_outside}

-- whether a square is fixed, by its code
pub standing_open : (codes : List ℕ) (s : ℕ) → s < length codes → get_or codes s 0 ≡ 255 → standing codes s ≡ false
standing_open codes s l is = ap not (eq-eqb (get_or codes s 255) 255 (get_or_default codes s 255 0 l ∙ is))

pub standing-fixed : (codes : List ℕ) (s : ℕ) → s < length codes → (get_or codes s 0 ≡ 255 → ⊥) → standing codes s ≡ true
standing-fixed codes s l other = ap not (ne_eqb (get_or codes s 255) 255 (λ is. other (get_or_default codes s 0 255 l ∙ is)))

module _ {T : Type 0} (j : Setting T) (s : ℕ) (b : Bands T) where
  pub attempt_refused : (n : ℕ) → refusal j.squares (standing b.codes) s ≡ suc n → told (Refused (suc n)) b ≡ attempt j s b
  attempt_refused n is = sym (ap (λ r. fix_at r (j.tables.choice (get_or b.amounts s j.algebra.zero)) (fixed_in j s b) b) is)

-- a row or a column outside the drawing
module _ {T : Type 0} (p : Job T) (row column : ℕ) (b : Bands T) where
  pub fix_outside : fits p b ≡ true → ltb row p.rows && ltb column p.columns ≡ false → told (Refused 3) b ≡ fix_on p row column b
  fix_outside fit out =
      let s = place p row column in
      let beyond : s ≡ squares p = cond-false (ltb row p.rows && ltb column p.columns) _ _ out in
      sym (cond-true (fits p b) _ _ fit
      ∙ ap (λ r. fix_at r (p.setting.tables.choice (get_or b.amounts s p.setting.algebra.zero)) (fixed_in p.setting s b) b)
      (refused_outside p.setting.squares (standing b.codes) s (omega arith)))

-- a square outside by its row or its column fails the test of both
pub test_outside : (row rows column columns : ℕ) → (row < rows → column < columns → ⊥) → ltb row rows && ltb column columns ≡ false
test_outside row rows column columns outside = elim (cases_lt row rows) [
  | inl l ↦ ap (λ x. x && ltb column columns) (lt-ltb row rows l) ∙ elim (cases_lt column columns) [
    | inl m ↦ absurd (outside l m)
    | inr m ↦ le-ltb column columns m
  ]
  | inr l ↦ ap (λ x. x && ltb column columns) (le-ltb row rows l)
]

-- what an attempt's answer tells
pub record Accepted {T : Type 0} (j : Setting T) (s : ℕ) (b after : Bands T) : Type 0 where
  pub free : refusal j.squares (standing b.codes) s ≡ 0
  pub made : after ≡ fixed_in j s b

pub record Declined {T : Type 0} (j : Setting T) (s : ℕ) (b after : Bands T) (m : ℕ) : Type 0 where
  pub less : ℕ
  pub ground : refusal j.squares (standing b.codes) s ≡ suc less
  pub number : m ≡ suc less
  pub same : after ≡ b

module _ {T : Type 0} (j : Setting T) (s : ℕ) (b after : Bands T) where
  pub attempt_accepted : (code : ℕ) → told (Code code) after ≡ attempt j s b → Accepted j s b after
  attempt_accepted code is = go (refusal j.squares (standing b.codes) s) refl
    where
      go : (r : ℕ) → refusal j.squares (standing b.codes) s ≡ r → Accepted j s b after
      go ℕ.zero e = record {
        free = e;
        made = ap (λ t. t.state) (is ∙ ap (λ r. fix_at r (j.tables.choice (get_or b.amounts s j.algebra.zero)) (fixed_in j s b) b) e);
      }
      go (suc n) e =
          let answers : ◌≡◌ {A = Answer T} (Code code) (Refused (suc n)) = ap (λ t. t.answer) (is ∙ ap (λ r. fix_at r (j.tables.choice (get_or b.amounts s j.algebra.zero)) (fixed_in j s b) b) e) in
          let z : ◌≡◌ {A = ℕ} 0 1 = cc in
          absurd (omega arith)

  pub attempt_declined : (m : ℕ) → told (Refused m) after ≡ attempt j s b → Declined j s b after m
  attempt_declined m is = go (refusal j.squares (standing b.codes) s) refl
    where
      go : (r : ℕ) → refusal j.squares (standing b.codes) s ≡ r → Declined j s b after m
      go ℕ.zero e =
          let answers : ◌≡◌ {A = Answer T} (Refused m) (Code (j.tables.choice (get_or b.amounts s j.algebra.zero)))
          = ap (λ t. t.answer) (is ∙ ap (λ r. fix_at r (j.tables.choice (get_or b.amounts s j.algebra.zero)) (fixed_in j s b) b) e) in
          let z : ◌≡◌ {A = ℕ} 0 1 = cc in
          absurd (omega arith)
      go (suc n) e =
          let all = is ∙ ap (λ r. fix_at r (j.tables.choice (get_or b.amounts s j.algebra.zero)) (fixed_in j s b) b) e in
          let answers : ◌≡◌ {A = Answer T} (Refused m) (Refused (suc n)) = ap (λ t. t.answer) all in
          record { less = n; ground = e; number = cc; same = ap (λ t. t.state) all }

-- Follow on bands that fit
pub follow-told : {T : Type 0} (p : Job T) (b : Bands T) (ps : List ℕ) (r : fixes.Followed (Bands T)) → fits p b ≡ true → follow_in p.setting b ps ≡ r
    → told (Followed r.count r.refusal) r.state ≡ follow_on p ps b
follow-told p b ps r fit is = sym (cond-true (fits p b) _ _ fit ∙ ap (λ x. told (Followed x.count x.refusal) x.state) is)
