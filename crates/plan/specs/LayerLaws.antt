-- The layers keep the laws of the plan below.
use Rattle.std.specs.Prelude.{◌≡◌, ℕ, ◌+◌, ◌-◌, ◌%◌, ◌≤◌, ◌≢◌, refl}
use Rattle.std.proofs.Common.{sym, ap, ◌∙◌, inl, inr, ⊎_elim, arith}
use Rattle.std.proofs.Math.Nat.{mod-mod, mod-add-mod}
use Rattle.plan.specs.Ranks.{Ranks, Near, Lawful}
use Rattle.plan.specs.Layers.{reading, along, across, same, shifted, mirrored, turned, reversed}
use Rattle.plan.specs.Plane.{NearModulo}
use Rattle.plan.specs.Modulo.{next_other, near_cases, turn_near, across_next}
use Rattle.plan.specs.PlaneLemmas.{alike, modulo_apart}

-- a way to read the rows or columns that keeps what is near, and what is not the same, modulo the period
pub record Motion (p : ℕ) (f : ℕ → ℕ) : Type 0 where
  pub repeats : (x : ℕ) → f (x % p) % p ≡ f x % p
  pub near : (x : ℕ) → NearModulo p (f x) (f (x + 1))
  pub moves : (x : ℕ) → f x % p ≢ f (x + 1) % p

module _ (p : ℕ) (f : ℕ → ℕ) (motion : Motion p f) where
  motion_near : (x y : ℕ) → Near x y → NearModulo p (f x) (f y)
  motion_near x y h =
      ⊎_elim
      (λ e. inl (ap (λ n. f n % p) e))
      (⊎_elim
      (λ (e : y ≡ x + 1). rw e (motion.near x))
      (λ (e : x ≡ y + 1). rw e (turn_near p (f y) (f (y + 1)) (motion.near y))))
      (near_cases x y h)

  motion_other : (x y : ℕ) → Near x y → f x % p ≡ f y % p → x ≡ y
  motion_other x y h k =
      ⊎_elim
      (λ e. e)
      (⊎_elim
      (λ (e : y ≡ x + 1). absurd (motion.moves x (k ∙ ap (λ n. f n % p) e)))
      (λ (e : x ≡ y + 1). absurd (motion.moves y (sym k ∙ ap (λ n. f n % p) e))))
      (near_cases x y h)

pub reading_lawful : (m : Ranks) (f g : ℕ → ℕ) → Lawful m → Motion m.row_period f → Motion m.column_period g → Lawful (reading f g m)
reading_lawful m f g law rows columns = record {
  row_period = law.row_period;
  column_period = law.column_period;
  byte = law.byte;
  repeats = λ r c. alike m law (f r) (g c) (f (r % m.row_period)) (g (c % m.column_period)) (sym (rows.repeats r)) (sym (columns.repeats c));
  capped = λ r c. law.capped (f r) (g c);
  apart = λ r c r' c' touch. modulo_apart m law (f r) (g c) (f r') (g c') (record {
    rows = motion_near m.row_period f rows r r' touch.rows;
    columns = motion_near m.column_period g columns c c' touch.columns;
    other = λ e k. touch.other (motion_other m.row_period f rows r r' touch.rows e) (motion_other m.column_period g columns c c' touch.columns k);
  });
}

same_motion : (p : ℕ) → 2 ≤ p → Motion p same
same_motion p two = record {
  repeats = λ x. mod-mod x p;
  near = λ x. inr (inl refl);
  moves = λ x e. next_other p x two (sym e);
}

along_motion : (p a : ℕ) → 2 ≤ p → Motion p (along p a)
along_motion p a two = record {
  repeats = λ x. ap (λ n. n % p) (mod-add-mod x p a);
  near = λ x. inr (inl (mod-mod (x + 1 + a) p ∙ ap (λ n. n % p) (step x) ∙ sym (mod-add-mod (x + a) p 1)));
  moves = λ x e. next_other p (x + a) two (ap (λ n. n % p) (sym (step x)) ∙ sym (mod-mod (x + 1 + a) p) ∙ sym e ∙ mod-mod (x + a) p);
}
  where
    step : (x : ℕ) → x + 1 + a ≡ x + a + 1
    step x = omega arith

across_motion : (q : ℕ) → 2 ≤ q → Motion q (across q)
across_motion q two = record {
  repeats = λ x. ap (λ n. (q - 1 - n) % q) (mod-mod x q);
  near = λ x. inr (inr (across_next q x two));
  moves = λ x e. next_other q (across q (x + 1)) two (sym (across_next q x two) ∙ e);
}

pub shifted_lawful : (m : Ranks) (a b : ℕ) → Lawful m → Lawful (shifted a b m)
shifted_lawful m a b law =
    reading_lawful m (along m.row_period a) (along m.column_period b) law
    (along_motion m.row_period a law.row_period.least)
    (along_motion m.column_period b law.column_period.least)

pub mirrored_lawful : (m : Ranks) → Lawful m → Lawful (mirrored m)
mirrored_lawful m law =
    reading_lawful m same (across m.column_period) law
    (same_motion m.row_period law.row_period.least)
    (across_motion m.column_period law.column_period.least)

pub turned_lawful : (m : Ranks) → Lawful m → Lawful (turned m)
turned_lawful m law = record {
  row_period = law.column_period;
  column_period = law.row_period;
  byte = law.byte;
  repeats = λ r c. law.repeats c r;
  capped = λ r c. law.capped c r;
  apart = λ r c r' c' touch. law.apart c r c' r' (record { rows = touch.columns; columns = touch.rows; other = λ e f. touch.other f e });
}

pub reversed_lawful : (m : Ranks) → Lawful m → Lawful (reversed m)
reversed_lawful m law = record {
  row_period = law.row_period;
  column_period = law.column_period;
  byte = law.byte;
  repeats = λ r c. ap (λ n. m.top - n) (law.repeats r c);
  capped = λ r c. omega arith;
  apart = λ r c r' c' touch e. law.apart r c r' c' touch (omega (arith, law.capped r c, law.capped r' c'));
}
