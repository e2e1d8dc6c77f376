-- The bands of a set: they depend on the squares of the drawing alone, they tell the set, and a fix of them is a fix of the set.
use Rattle.std.proofs.Common.{◌≡◌, ℕ, ◌<◌, Bool, true, false, cond, not, eqb, List, [], ◌∷◌, map, get_or, Some, None, Decides, Option, sym, refl, ap, ◌∙◌, ap₂, arith}
use Rattle.std.specs.List.{range_with_len}
use Rattle.std.proofs.lemmas.Bool.{ne_eqb}
use Rattle.std.proofs.lemmas.Bool.Decides.{Decides-below_and, Decides-like, same_from_decides}
use Rattle.std.proofs.lemmas.List.FromFn.{fill_by_all, get_or-map-range_with_len, length-map-range_with_len}
use Rattle.tone.proofs.Totals.{total_zero}
use Rattle.quantiser.specs.Tables.{Sound}
use Rattle.grid.specs.Directions.{opposite}
use Rattle.diffusion.specs.Neighbourhoods.{Neighbourhood, Laws, lower}
use Rattle.diffusion.specs.Draft.{Setting, Lawful, gather, amount, code, error, part}
use Rattle.diffusion.specs.Sets.{none, add, add_all, okay, ready_by, Closed, Ready, Fixable, InTurn}
use Rattle.diffusion.specs.Sets.InTurn.{next}
use Rattle.diffusion.specs.Bands.{bands, opened, code_at, amount_at, part_in, codes, amounts, standing, fixed_by, fixed_all}
use Rattle.diffusion.specs.Theorems.{Fixes, Follows, Orderless}
use Rattle.diffusion.proofs.Neighbours.{lower-within}
use Rattle.diffusion.proofs.Amounts.{gather-same}
use Rattle.diffusion.proofs.Spreading.{at_zero}
use Rattle.diffusion.proofs.Fixing.{held, closed_after, codes-after, amounts-after}

pub decides_ready : (squares : Neighbourhood) (F : ℕ → Bool) (s : ℕ) → Decides (ready_by squares F s 8) (Ready squares F s)
unfolding ready_by
decides_ready squares F s = Decides-like (ready_by squares F s 8) (λ h d t l e. h d l t e) (λ h d l t e. h d t l e)
    (Decides-below_and (λ d. okay F (lower squares s d)) (λ d. (t : ℕ) → lower squares s d ≡ Some t → F t ≡ true) (ready_by squares F s)
    (λ d. each (lower squares s d)) refl (λ n. refl) 8)
  where
    each : (o : Option ℕ) → Decides (okay F o) ((t : ℕ) → o ≡ Some t → F t ≡ true)
    each None = (λ e t h. let z : ◌≡◌ {A = ℕ} 0 1 = cc in absurd (omega arith), λ h. refl)
    each (Some u) = (λ e t h. let same : t ≡ u = cc in ap F same ∙ e, λ h. h u refl)

-- sets that agree at the squares of the drawing make the same squares ready
pub ready_same : (squares : Neighbourhood) → Laws squares → (F G : ℕ → Bool) → ((t : ℕ) → t < squares.count → F t ≡ G t)
    → (s : ℕ) → s < squares.count → ready_by squares F s 8 ≡ ready_by squares G s 8
ready_same squares laws F G h s l =
    same_from_decides _ _ (decides_ready squares F s)
    (Decides-like (ready_by squares G s 8)
    (λ k d t ld e. h t (lower-within squares laws s d t l ld e) ∙ k d t ld e)
    (λ k d t ld e. sym (h t (lower-within squares laws s d t l ld e)) ∙ k d t ld e)
    (decides_ready squares G s))

-- lists made from functions that agree below n
pub counted_same : {X : Type 0} (f g : ℕ → X) (n : ℕ) (d : X) → ((k : ℕ) → k < n → f k ≡ g k) → map f (range_with_len 0 n) ≡ map g (range_with_len 0 n)
counted_same f g n d h = fill_by_all g (map f (range_with_len 0 n)) n d (length-map-range_with_len f 0 n)
    (λ k l. get_or-map-range_with_len f 0 n k k d l (omega arith) ∙ h k l)

module _ {T : Type 0} (j : Setting T) (F : ℕ → Bool) where
  pub code_read : (s : ℕ) → s < j.squares.count → get_or (codes j F) s 255 ≡ code_at j F s
  code_read s l = get_or-map-range_with_len (code_at j F) 0 j.squares.count s s 255 l (omega arith)

  pub amount_read : (s : ℕ) → s < j.squares.count → get_or (amounts j F) s j.algebra.zero ≡ amount_at j F s
  amount_read s l = get_or-map-range_with_len (amount_at j F) 0 j.squares.count s s j.algebra.zero l (omega arith)

  -- no choice is 255
  pub standing_is : Sound j.algebra j.tables → (s : ℕ) → s < j.squares.count → standing (bands j F).codes s ≡ F s
  unfolding code_at
  standing_is sound s l = ap (λ c. not (eqb c 255)) (code_read s l) ∙ by (F s)
    where
      by : (b : Bool) → not (eqb (cond b (code j s) 255) 255) ≡ b
      by true = ap not (ne_eqb (code j s) 255 (λ e. omega (arith, sound.within (amount j s), sound.few)))
      by false = refl

module _ {T : Type 0} (j : Setting T) (laws : Laws j.squares) where
  pub bands-same : (F G : ℕ → Bool) → ((s : ℕ) → s < j.squares.count → F s ≡ G s) → bands j F ≡ bands j G
  unfolding code_at amount_at
  bands-same F G h =
      let cs : codes j F ≡ codes j G = counted_same (code_at j F) (code_at j G) j.squares.count 0 (λ s l. ap (λ b. cond b (code j s) 255) (h s l)) in
      let sa : amounts j F ≡ amounts j G = counted_same (amount_at j F) (amount_at j G) j.squares.count j.algebra.zero (λ s l.
      ap₂ (λ b x. cond b (error j s) (j.algebra.sum (j.drawing s) x)) (h s l)
      (gather-same j.algebra j.squares (part_in j F) (part_in j G) s
      (λ d t ld e. ap (λ b. cond b (part j t (opposite d)) j.algebra.zero) (h t (lower-within j.squares laws s d t l ld e))))) in
      λ i. record { codes = cs i; amounts = sa i }

module _ {T : Type 0} (j : Setting T) (lawful : Lawful j) where
  -- a new job has the bands of no square
  pub opened_is : opened j ≡ bands j none
  unfolding code_at amount_at gather
  opened_is =
      let sa : map j.drawing (range_with_len 0 j.squares.count) ≡ amounts j none = counted_same j.drawing (amount_at j none) j.squares.count j.algebra.zero (λ s l.
      sym (ap (j.algebra.sum (j.drawing s))
      (total_zero j.algebra lawful.tone _ 8 (λ d ld. at_zero j.algebra (lower j.squares s d) _ (λ t e. refl)))
      ∙ lawful.tone.neutral (j.drawing s))) in
      λ i. record { codes = codes j none; amounts = sa i }

  pub fix_adds : (F : ℕ → Bool) → Closed j.squares F → (s : ℕ) → Fixable j.squares F s → Fixes j F s
  fix_adds F closed s k =
      let is : get_or (amounts j F) s j.algebra.zero ≡ amount j s = amount_read j F s k.inside ∙ held j F s k.lacks k.ready in
      let cs = codes-after j lawful.tone lawful.squares F s k.inside in
      let sa = amounts-after j lawful.tone lawful.squares F s closed k.inside k.lacks in
      record {
        made = ap (λ x. fixed_by j s x (bands j F)) is ∙ (λ i. record { codes = cs i; amounts = sa i });
        closed = closed_after j.squares F s closed k.ready;
        held = is;
      }

  -- one square after the other
  follows : (F : ℕ → Bool) → Closed j.squares F → (ps : List ℕ) → InTurn j.squares F ps → Follows j F ps
  unfolding fixed_all add_all
  follows F closed [] turn = record { made = refl; closed = closed }
  follows F closed (s ∷ ps) (next k rest) =
      let one = fix_adds F closed s k in
      let more = follows (add F s) one.closed ps rest in
      record { made = ap (fixed_all j ps) one.made ∙ more.made; closed = more.closed }

  pub orderless : (F : ℕ → Bool) → Closed j.squares F → Orderless j F
  orderless F closed = record {
    same = bands-same j lawful.squares F;
    follows = follows F closed;
    alike = λ ps qs p q same. (follows F closed ps p).made ∙ bands-same j lawful.squares (add_all F ps) (add_all F qs) same ∙ sym (follows F closed qs q).made;
  }
