-- What the drawing holds is in the outputs, the losses and the open squares: what is received is what is sent, edge by edge.
use Rattle.std.proofs.Common.{◌≡◌, ℕ, ◌<◌, Bool, true, false, cond, ◌&&◌, eqb, is_some, Some, None, Option, sym, refl, ap, ◌∙◌, ap₂, inl, inr}
use Rattle.std.proofs.lemmas.Bool.{cases_Bool, cond-true}
use Rattle.tone.specs.Algebra.{Algebra, Lawful}
use Rattle.tone.specs.Sums.{total}
use Rattle.tone.proofs.Groups.{neutral_left, cancel}
use Rattle.tone.proofs.Totals.{total-same, total_zero, total-sum, total_exchange, total_single}
use Rattle.grid.specs.Directions.{opposite}
use Rattle.quantiser.specs.Tables.{Sound}
use Rattle.diffusion.specs.Neighbourhoods.{Laws, lower, higher, baron}
use Rattle.diffusion.specs.Draft as draft
use Rattle.diffusion.specs.Draft.{Setting, at, gather, part, amount, code, error}
use Rattle.diffusion.specs.Sets.{Closed}
use Rattle.diffusion.specs.Bands.{bands, code_at, amount_at, part_in}
use Rattle.diffusion.specs.Tallies.{all_of, output_of, loss_of, open_of, output_total, loss_total, open_total}
use Rattle.diffusion.specs.Theorems.{KeepsTotal}
use Rattle.diffusion.proofs.Neighbours.{lower-within, higher-within}
use Rattle.diffusion.proofs.Amounts.{recursion, gather-same}
use Rattle.diffusion.proofs.Spreading.{toward, total-opposite, toward_lower}
use Rattle.diffusion.proofs.Fixing.{amount_open}
use Rattle.diffusion.proofs.Parts.{sends_none, parts_sum}
use Rattle.diffusion.proofs.SetBands.{code_read, amount_read, standing_is}

module _ {T : Type 0} (tone : Algebra T) (lawful : Lawful tone) where
  scatter : (o : Option ℕ) (h : ℕ → T) (n : ℕ) → ((u : ℕ) → o ≡ Some u → u < n)
      → at tone o h ≡ total tone (λ t. at tone o (λ u. cond (eqb t u) (h t) tone.zero)) n
  scatter None h n l = sym (total_zero tone lawful _ n (λ k lk. refl))
  scatter (Some u) h n l = sym (total_single tone lawful u h n (l u refl))

module _ {T : Type 0} (j : Setting T) (lawful : Lawful j.algebra) (laws : Laws j.squares) where
  -- what is received is what is sent
  received : (g : ℕ → ℕ → T) → all_of j (gather j.algebra j.squares g) ≡ all_of j (λ t. total j.algebra (λ d. at j.algebra (higher j.squares t d) (λ u. g t d)) 8)
  unfolding gather
  received g =
      total-same j.algebra _ _ N (λ s ls.
      total-same j.algebra _ _ 8 (λ d ld.
      scatter j.algebra lawful (lower j.squares s d) (λ t. g t (opposite d)) N (λ u e. lower-within j.squares laws s d u ls ld e)
      ∙ total-same j.algebra _ _ N (λ t lt. toward_lower j.algebra j.squares laws t s d (g t) lt ls ld))
      ∙ total_exchange j.algebra lawful (λ d t. toward j.algebra j.squares t (g t) s (opposite d)) 8 N
      ∙ total-same j.algebra _ _ N (λ t lt. total-opposite j.algebra lawful (toward j.algebra j.squares t (g t) s)))
      ∙ total_exchange j.algebra lawful (λ s t. total j.algebra (toward j.algebra j.squares t (g t) s) 8) N N
      ∙ total-same j.algebra _ _ N (λ t lt.
      total_exchange j.algebra lawful (λ s d. toward j.algebra j.squares t (g t) s d) N 8
      ∙ total-same j.algebra _ _ 8 (λ d ld.
      sym (scatter j.algebra lawful (higher j.squares t d) (λ s. g t d) N (λ u e. higher-within j.squares laws t d u lt ld e))))
    where
      N : ℕ
      N = j.squares.count

  module _ (F : ℕ → Bool) (closed : Closed j.squares F) where
    -- what the square t sends, if it is fixed
    given : ℕ → T
    given t = cond (F t) (total j.algebra (part j t) 8) j.algebra.zero

    sent : all_of j (λ t. total j.algebra (λ d. at j.algebra (higher j.squares t d) (λ u. part_in j F t d)) 8) ≡ all_of j given
    unfolding given
    sent = total-same j.algebra _ _ j.squares.count (λ t lt. by_member t (F t))
      where
        at_const : (o : Option ℕ) (x : T) → (is_some o ≡ false → x ≡ j.algebra.zero) → at j.algebra o (λ u. x) ≡ x
        at_const None x h = sym (h refl)
        at_const (Some u) x h = refl

        at_zeros : (o : Option ℕ) → at j.algebra o (λ u. j.algebra.zero) ≡ j.algebra.zero
        at_zeros None = refl
        at_zeros (Some u) = refl

        by_member : (t : ℕ) (b : Bool)
            → total j.algebra (λ d. at j.algebra (higher j.squares t d) (λ u. cond b (part j t d) j.algebra.zero)) 8 ≡ cond b (total j.algebra (part j t) 8) j.algebra.zero
        by_member t true = total-same j.algebra _ _ 8 (λ d ld. at_const (higher j.squares t d) (part j t d) (λ h. sends_none j.algebra j.squares t (error j t) d ld h))
        by_member t false = total_zero j.algebra lawful _ 8 (λ d ld. at_zeros (higher j.squares t d))

    -- each square
    balance : (s : ℕ) → s < j.squares.count
        → j.algebra.sum (j.drawing s) (gather j.algebra j.squares (part_in j F) s)
        ≡ j.algebra.sum (j.algebra.sum (output_of j F s) (loss_of j F s)) (j.algebra.sum (open_of j F s) (given s))
    unfolding given
    balance s ls = elim (cases_Bool (F s)) [
      | inl has ↦ rw has (
          ap (j.algebra.sum (j.drawing s)) (gather-same j.algebra j.squares (part_in j F) (part j) s (λ d t ld e. cond-true (F t) (part j t (opposite d)) _ (closed s d t ls ld has e)))
          ∙ sym (recursion j s)
          ∙ sym (lawful.back (amount j s) (j.tables.output (code j s)))
          ∙ sym (settle (baron j.squares s) (j.tables.output (code j s)) (error j s))
          ∙ ap (λ x. j.algebra.sum (j.algebra.sum (j.tables.output (code j s)) (cond (baron j.squares s) (error j s) j.algebra.zero)) (j.algebra.sum j.algebra.zero x))
          (sym (parts_sum j.algebra j.squares s (error j s) lawful)))
      | inr lacks ↦ rw lacks (sym (amount_open j F s lacks) ∙ sym (lawful.neutral (amount_at j F s)) ∙ sym (neutral_left j.algebra lawful _)
          ∙ ap (λ x. j.algebra.sum x (j.algebra.sum (amount_at j F s) j.algebra.zero)) (sym (lawful.neutral j.algebra.zero)))
    ]
      where
        settle : (b : Bool) (o e : T)
            → j.algebra.sum (j.algebra.sum o (cond b e j.algebra.zero)) (j.algebra.sum j.algebra.zero (cond b j.algebra.zero e)) ≡ j.algebra.sum e o
        settle true o e = ap (j.algebra.sum _) (lawful.neutral j.algebra.zero) ∙ lawful.neutral _ ∙ lawful.comm o e
        settle false o e = ap₂ j.algebra.sum (lawful.neutral o) (neutral_left j.algebra lawful e) ∙ lawful.comm o e

    pub conservation : all_of j j.drawing ≡ j.algebra.sum (j.algebra.sum (all_of j (output_of j F)) (all_of j (loss_of j F))) (all_of j (open_of j F))
    conservation =
        let N : ℕ = j.squares.count in
        let got : all_of j (gather j.algebra j.squares (part_in j F)) ≡ all_of j given = received (part_in j F) ∙ sent in
        cancel j.algebra lawful _ _ (all_of j given)
        (ap (j.algebra.sum (all_of j j.drawing)) (sym got)
        ∙ sym (total-sum j.algebra lawful j.drawing (gather j.algebra j.squares (part_in j F)) N)
        ∙ total-same j.algebra _ _ N balance
        ∙ total-sum j.algebra lawful (λ s. j.algebra.sum (output_of j F s) (loss_of j F s)) (λ s. j.algebra.sum (open_of j F s) (given s)) N
        ∙ ap₂ j.algebra.sum (total-sum j.algebra lawful (output_of j F) (loss_of j F) N) (total-sum j.algebra lawful (open_of j F) given N)
        ∙ sym (lawful.assoc _ _ _))

-- the totals that the bands of a set show
module _ {T : Type 0} (j : Setting T) (sound : Sound j.algebra j.tables) (F : ℕ → Bool) where
  pub outputs_are : output_total j (bands j F) ≡ all_of j (output_of j F)
  unfolding code_at
  outputs_are = total-same j.algebra _ _ j.squares.count (λ s l.
      ap₂ (λ b c. cond b (j.tables.output c) j.algebra.zero) (standing_is j F sound s l) (code_read j F s l) ∙ by s (F s))
    where
      by : (s : ℕ) (b : Bool) → cond b (j.tables.output (cond b (code j s) 255)) j.algebra.zero ≡ cond b (j.tables.output (code j s)) j.algebra.zero
      by s true = refl
      by s false = refl

  pub losses_are : loss_total j (bands j F) ≡ all_of j (loss_of j F)
  unfolding amount_at
  losses_are = total-same j.algebra _ _ j.squares.count (λ s l.
      ap₂ (λ b x. cond (b && baron j.squares s) x j.algebra.zero) (standing_is j F sound s l) (amount_read j F s l) ∙ by s (F s) (j.algebra.sum (j.drawing s) _))
    where
      by : (s : ℕ) (b : Bool) (x : T) → cond (b && baron j.squares s) (cond b (error j s) x) j.algebra.zero ≡ cond (b && baron j.squares s) (error j s) j.algebra.zero
      by s true x = refl
      by s false x = refl

  pub open_are : open_total j (bands j F) ≡ all_of j (open_of j F)
  open_are = total-same j.algebra _ _ j.squares.count (λ s l.
      ap₂ (λ b x. cond b j.algebra.zero x) (standing_is j F sound s l) (amount_read j F s l))

pub keeps_total : {T : Type 0} (j : Setting T) → draft.Lawful j → (F : ℕ → Bool) → Closed j.squares F → KeepsTotal j F
keeps_total j lawful F closed = record {
  kept = conservation j lawful.tone lawful.squares F closed;
  outputs = outputs_are j lawful.tables F;
  losses = losses_are j lawful.tables F;
  amounts = open_are j lawful.tables F;
}
