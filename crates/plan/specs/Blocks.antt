-- Ranks that repeat are apart everywhere if they are apart at the squares of one period, each towards the east and the south.
--
use Rattle.std.specs.Prelude.{◌≡◌, ℕ, zero, suc, ◌+◌, ◌%◌, ◌<◌, ◌≤◌, Bool, true, false, not, ◌&&◌, ◌⊎◌, Decides, MatchBool, ◌==◌, refl}
use Rattle.std.proofs.Common.{sym, ap₂, ◌∙◌, ⊎_elim, mod-lt, arith}
use Rattle.std.proofs.Math.Nat.{mod-mod, mod-add-mod}
use Rattle.std.proofs.lemmas.Bool.Decides.{Decides-eqb, Decides-not, Decides-and, Decides-like, Decides-below_and}
use Rattle.std.proofs.lemmas.Bool.{and_cases, eqb-true, not-false}
use Rattle.plan.specs.Ranks.{Touch, Apart}
use Rattle.plan.specs.Table.{BlockApart, block_apart, Clash}
use Rattle.plan.specs.Modulo.{near_cases}

module _ (rank : ℕ → ℕ → ℕ) where
  pub apart_from_blocks : ((r c : ℕ) → BlockApart rank r c) → Apart rank
  apart_from_blocks each r c r' c' touch same =
      ⊎_elim
      (λ (e : r ≡ r').
      ⊎_elim
      (λ (f : c ≡ c'). touch.other e f)
      (⊎_elim
      (λ (f : c' ≡ c + 1). (each r c).east (same ∙ ap₂ rank (sym e) f))
      (λ (f : c ≡ c' + 1). (each r c').east (ap₂ rank e refl ∙ sym same ∙ ap₂ rank refl f)))
      columns)
      (⊎_elim
      (λ (e : r' ≡ r + 1).
      ⊎_elim
      (λ (f : c ≡ c'). (each r c).south (same ∙ ap₂ rank e (sym f)))
      (⊎_elim
      (λ (f : c' ≡ c + 1). (each r c).south_east (same ∙ ap₂ rank e f))
      (λ (f : c ≡ c' + 1). (each r c').south_west (ap₂ rank refl (sym f) ∙ same ∙ ap₂ rank e refl)))
      columns)
      (λ (e : r ≡ r' + 1).
      ⊎_elim
      (λ (f : c ≡ c'). (each r' c').south (sym same ∙ ap₂ rank e f))
      (⊎_elim
      (λ (f : c' ≡ c + 1). (each r' c).south_west (ap₂ rank refl (sym f) ∙ sym same ∙ ap₂ rank e refl))
      (λ (f : c ≡ c' + 1). (each r' c').south_east (sym same ∙ ap₂ rank e f)))
      columns))
      (near_cases r r' touch.rows)
    where
      columns : (c ≡ c') ⊎ ((c' ≡ c + 1) ⊎ (c ≡ c' + 1))
      columns = near_cases c c' touch.columns

  pub blocks_from_apart : Apart rank → (r c : ℕ) → BlockApart rank r c
  blocks_from_apart apart r c = record {
    east = apart r c r (c + 1) (record { rows = omega arith; columns = omega arith; other = λ e f. omega arith });
    south = apart r c (r + 1) c (record { rows = omega arith; columns = omega arith; other = λ e f. omega arith });
    south_east = apart r c (r + 1) (c + 1) (record { rows = omega arith; columns = omega arith; other = λ e f. omega arith });
    south_west = apart r (c + 1) (r + 1) c (record { rows = omega arith; columns = omega arith; other = λ e f. omega arith });
  }

  module _ (p q : ℕ) (repeats : (r c : ℕ) → rank r c ≡ rank (r % p) (c % q)) where
    alike : (r c r' c' : ℕ) → r % p ≡ r' % p → c % q ≡ c' % q → rank r c ≡ rank r' c'
    alike r c r' c' e f = repeats r c ∙ ap₂ rank e f ∙ sym (repeats r' c')

    -- from one period to the plane
    pub blocks_everywhere : 2 ≤ p → 2 ≤ q → ((r : ℕ) → r < p → (c : ℕ) → c < q → BlockApart rank r c) → (r c : ℕ) → BlockApart rank r c
    blocks_everywhere tp tq each r c =
        let i = r % p in
        let j = c % q in
        let s = each i (mod-lt r (omega arith)) j (mod-lt c (omega arith)) in
        let r0 : r % p ≡ i % p = sym (mod-mod r p) in
        let c0 : c % q ≡ j % q = sym (mod-mod c q) in
        let r1 : (r + 1) % p ≡ (i + 1) % p = sym (mod-add-mod r p 1) in
        let c1 : (c + 1) % q ≡ (j + 1) % q = sym (mod-add-mod c q 1) in
        let here = alike r c i j r0 c0 in
        let east = alike r (c + 1) i (j + 1) r0 c1 in
        let south = alike (r + 1) c (i + 1) j r1 c0 in
        record {
          east = λ e. s.east (sym here ∙ e ∙ east);
          south = λ e. s.south (sym here ∙ e ∙ south);
          south_east = λ e. s.south_east (sym here ∙ e ∙ alike (r + 1) (c + 1) (i + 1) (j + 1) r1 c1);
          south_west = λ e. s.south_west (sym east ∙ e ∙ south);
        }

  pub decides_block : (r c : ℕ) → Decides (block_apart rank r c) (BlockApart rank r c)
  decides_block r c =
      let here = rank r c in
      let east = rank r (c + 1) in
      let south = rank (r + 1) c in
      let corner = rank (r + 1) (c + 1) in
      Decides-like (block_apart rank r c)
      (λ h. record { east = h.0; south = h.1.0; south_east = h.1.1.0; south_west = h.1.1.1 })
      (λ s. (s.east, (s.south, (s.south_east, s.south_west))))
      (Decides-and _ _ (Decides-not _ (Decides-eqb here east))
      (Decides-and _ _ (Decides-not _ (Decides-eqb here south))
      (Decides-and _ _ (Decides-not _ (Decides-eqb here corner)) (Decides-not _ (Decides-eqb east south)))))

  -- a test that fails shows two squares
  pub clash_in_block : (r c : ℕ) → block_apart rank r c ≡ false → Clash rank
  clash_in_block r c failed =
      ⊎_elim (at r c r (c + 1) (omega arith))
      (λ f.
      ⊎_elim (at r c (r + 1) c (omega arith))
      (λ g. ⊎_elim (at r c (r + 1) (c + 1) (omega arith)) (at r (c + 1) (r + 1) c (omega arith)) (and_cases _ _ g))
      (and_cases _ _ f))
      (and_cases _ _ failed)
    where
      at : (r c r' c' : ℕ) → Touch r c r' c' → not (rank r c == rank r' c') ≡ false → Clash rank
      at r c r' c' touch e = record {
        row = r;
        column = c;
        other_row = r';
        other_column = c';
        touch = touch;
        equal = eqb-true (rank r c) (rank r' c') (not-false (rank r c == rank r' c') e);
      }

  pub block_cases : (r c : ℕ) (b : Bool) → b ≡ block_apart rank r c → MatchBool b (BlockApart rank r c) (Clash rank)
  block_cases r c true e = (decides_block r c).0 (sym e)
  block_cases r c false e = clash_in_block r c (sym e)

  pub clash_breaks : Apart rank → Clash rank → ⊥
  clash_breaks apart k = apart k.row k.column k.other_row k.other_column k.touch k.equal

  pub apart_from_none : (Clash rank → ⊥) → Apart rank
  apart_from_none none r c r' c' touch equal =
      none (record { row = r; column = c; other_row = r'; other_column = c'; touch = touch; equal = equal })

abbrev pub every : (ℕ → Bool) → ℕ → Bool
every f zero = true
every f (suc n) = f n && every f n

pub from_every : (f : ℕ → Bool) (P : ℕ → Type 0) → ((k : ℕ) → Decides (f k) (P k)) → (n : ℕ) → Decides (every f n) ((k : ℕ) → k < n → P k)
from_every f P each n = Decides-below_and f P (every f) each refl (λ _. refl) n
