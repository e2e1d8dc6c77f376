-- The worked examples, by computing.
use Rattle.std.proofs.Common.{◌≡◌, ℕ, Bool, true, false, cond, ltb, [], ◌∷◌, pos, refl, ap, ◌∙◌, inr, arith}
use Rattle.std.proofs.lemmas.Bool.{cond-false, le-ltb}
use Rattle.std.specs.List.{AllByRecursion}
use Rattle.std.specs.Int.{int_wrap}
use Rattle.tone.specs.Colour.{colour_of}
use Rattle.tone.specs.Grey.{wrap}
use Rattle.tone.specs.Sums.{total}
use Rattle.plan.specs.Doubling.{corner_rank, doubling}
use Rattle.plan.specs.Knuth.{knuth_rows}
use Rattle.plan.specs.Table as tables
use Rattle.quantiser.specs.Least.{least}
use Rattle.quantiser.specs.Palette.{by_palette, distance, entry_of, Written}
use Rattle.quantiser.specs.declared.palette.Palette.{Palette}
use Rattle.grid.specs.Limits as sizes
use Rattle.bits.specs.Bits.{binary}
use Rattle.diffusion.specs.Draft.{sends, gather, amount_by, amount}
use Rattle.diffusion.specs.Bands.{code_at, amount_at, spread}
use Rattle.diffusion.specs.Neighbourhoods.{lower, higher, weights, last}
use Rattle.diffusion.specs.Sets.{ready_by}
use Rattle.diffusion.specs.Sweeps.{pass_in, passed_in, sweep_in, swept_in}
use Rattle.diffusion.specs.Tallies.{lost}
use Rattle.model.specs.Fixes.{refusal, follow_in}
use Rattle.model.specs.Records.{stand_below, all_below, record_refusal}
use Rattle.model.specs.Runs.{run}
use Rattle.examples.specs.Examples.{Holds, examples}

largest : sizes.Within 4096 256
largest = record { tall = omega arith; low = omega arith; wide = omega arith; narrow = omega arith; small = omega arith }

too_large : sizes.Refused 4096 257 1
too_large = (refl, λ within. omega (arith, within.small))

-- the two squares of rank 0 touch by a corner
clashing : tables.Refused 2 2 (0 ∷ 1 ∷ 2 ∷ 0 ∷ []) 17
clashing = inr (
  refl,
  record { row_period = record { least = omega arith; most = omega arith }; column_period = record { least = omega arith; most = omega arith }; count = refl },
  record {
    row = 0;
    column = 0;
    other_row = 1;
    other_column = 1;
    touch = record { rows = record { above = omega arith; below = omega arith }; columns = record { above = omega arith; below = omega arith }; other = λ e f. omega arith };
    equal = refl;
  },
)

either : (b : Bool) → ◌≡◌ {A = ℕ} (cond b 0 0) 0
either true = refl
either false = refl

-- of two entries equally far, the first is chosen
first_of_two : (f : ℕ → ℕ) (n : ℕ) → f 0 ≡ n → f 1 ≡ n → least f 2 ≡ 0
unfolding least
first_of_two f n first second =
    let none : least f 1 ≡ 0 = either (ltb (f 0) (f 0)) in
    let not_less : ltb (f 1) (f 0) ≡ false = le-ltb (f 1) (f 0) (omega arith) in
    ap (λ (m : ℕ). cond (ltb (f 1) (f m)) 1 m) none ∙ cond-false (ltb (f 1) (f 0)) 1 0 not_less

tie : (p : Palette) → Written (0 ∷ 0 ∷ 0 ∷ 254 ∷ 0 ∷ 0 ∷ []) p → (by_palette p).choice (colour_of (wrap (pos 127)) (wrap (pos 0)) (wrap (pos 0))) ≡ 0
unfolding int_wrap
tie p is =
    let x = colour_of (wrap (pos 127)) (wrap (pos 0)) (wrap (pos 0)) in
    let two : p.len ≡ 2 = is.len in
    ap (least (λ k. distance x (entry_of p k))) two
    ∙ first_of_two (λ k. distance x (entry_of p k)) 127 (ap (distance x) (is.colours 0 (omega arith))) (ap (distance x) (is.colours 1 (omega arith)))

pub all_hold : AllByRecursion Holds examples
unfolding int_wrap knuth_rows corner_rank doubling total lower higher weights last sends gather amount_by amount lost spread code_at amount_at ready_by pass_in passed_in sweep_in swept_in refusal follow_in binary stand_below all_below record_refusal run
all_hold = (
  largest,
  (
    too_large,
    (
      clashing,
      (
        refl,
        (
          refl,
          (
            refl,
            (
              refl,
              (
                refl,
                (
                  refl,
                  (
                    refl,
                    (
                      tie,
                      (record { codes = refl; errors = refl; barons = refl }, (record { codes = refl; errors = refl; barons = refl }, (refl, (refl, (refl, tt))))),
                    ),
                  ),
                ),
              ),
            ),
          ),
        ),
      ),
    ),
  ),
)
