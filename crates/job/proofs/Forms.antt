-- The form of a record, place by place.
use Rattle.std.proofs.Common.{◌≡◌, ℕ, zero, suc, ◌+◌, ◌*◌, ◌<◌, ◌≤◌, Bool, true, false, cond, not, ◌&&◌, ◌||◌, ltb, List, length, filter, sym, refl, ap, ◌∙◌, zero-add, add-zero, arith}
use Rattle.std.specs.List.{range_with_len, list_all}
use Rattle.std.proofs.Math.Bool.{and_comm, and_assoc, and-true}
use Rattle.std.proofs.lemmas.Bool.{and_from, lt-ltb, le-ltb, or_left}
use Rattle.bits.specs.Bits.{bytes_for}
use Rattle.model.specs.Records.{stands, stand_below, all_below, spare_clear}
use Rattle.model.proofs.OneMore.{stand_below-none, stand_below_more, all_below-none, all_below_more}

-- one place more that stands, or that does not
module _ (rec : List ℕ) (n count : ℕ) (so_far : count ≡ stand_below rec n) where
  pub counted-standing : stands rec n ≡ true → count + 1 ≡ stand_below rec (n + 1)
  counted-standing e = ap (λ k. k + 1) so_far ∙ sym (stand_below_more rec n ∙ ap {B = ℕ} (λ b. stand_below rec n + cond b 1 0) e)

  pub counted_other : stands rec n ≡ false → count ≡ stand_below rec (n + 1)
  counted_other e =
      let more : stand_below rec (n + 1) ≡ stand_below rec n + 0 = stand_below_more rec n ∙ ap {B = ℕ} (λ b. stand_below rec n + cond b 1 0) e in
      omega arith

-- those that stand of n places from a on, behind those below a
standing_from : (rec : List ℕ) (a n : ℕ) → length (filter (stands rec) (range_with_len a n)) + stand_below rec a ≡ stand_below rec (a + n)
standing_from rec a zero = rw (add-zero, zero-add)
standing_from rec a (suc n) =
    let rest = standing_from rec (a + 1) n in
    let here = stand_below_more rec a in
    let next : a + 1 + n ≡ a + suc n = omega arith in
    grind (arith, rest, here, ap (stand_below rec) next)

pub standing_all : (rec : List ℕ) (n : ℕ) → length (filter (stands rec) (range_with_len 0 n)) ≡ stand_below rec n
standing_all rec n =
    let all = standing_from rec 0 n in
    omega (arith, all, stand_below-none rec, ap (stand_below rec) (zero-add n))

-- what holds of each number below n holds of all
pub all_below_each : (p : ℕ → Bool) (n : ℕ) → ((k : ℕ) → k < n → p k ≡ true) → all_below p n ≡ true
unfolding all_below
all_below_each p zero h = refl
all_below_each p (suc n) h = and_from (p n) _ (h n (omega arith)) (all_below_each p n (λ k l. h k (omega arith)))

-- the m numbers from a on, where the test of all and that of the list agree from a on
pub below_from : (p q : ℕ → Bool) (a m : ℕ) → ((k : ℕ) → a ≤ k → p k ≡ q k) → all_below p (a + m) ≡ (all_below p a && list_all q (range_with_len a m))
below_from p q a zero same = rw (add-zero, and-true)
below_from p q a (suc m) same =
    let before = all_below p a in
    let rest = list_all q (range_with_len (a + 1) m) in
    let next : a + suc m ≡ a + 1 + m = omega arith in
    ap (all_below p) next
    ∙ below_from p q (a + 1) m (λ k h. same k (omega arith))
    ∙ ap (λ b. b && rest) (all_below_more p a ∙ ap (λ b. b && before) (same a (omega arith)) ∙ and_comm (q a) before)
    ∙ and_assoc before (q a) rest

-- of the first n numbers all
pub all_first : (p : ℕ → Bool) (n : ℕ) → list_all p (range_with_len 0 n) ≡ all_below p n
all_first p n =
    sym (ap (all_below p) (sym (zero-add n)) ∙ below_from p p 0 n (λ k h. refl) ∙ ap (λ b. b && list_all p (range_with_len 0 n)) (all_below-none p))

-- a spare bit is one behind the last of n squares
module _ (rec : List ℕ) (n : ℕ) where
  abbrev pub spare : ℕ → Bool
  spare k = ltb k n || not (stands rec k)

  -- before the first spare bit
  spare_none : all_below spare n ≡ true
  spare_none = all_below_each spare n (λ k l. or_left (ltb k n) _ (lt-ltb k n l))

  abbrev pub clear : ℕ → Bool
  clear k = not (stands rec k)

  pub clear_all : (m : ℕ) → n + m ≡ 8 * bytes_for n → list_all clear (range_with_len n m) ≡ spare_clear n rec
  clear_all m e =
      sym (ap (all_below spare) (sym e) ∙ below_from spare clear n m (λ k h. ap (λ b. b || clear k) (le-ltb k n h)) ∙ ap (λ b. b && list_all clear (range_with_len n m)) (spare_none))
