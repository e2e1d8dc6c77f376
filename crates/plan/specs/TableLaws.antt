-- The laws of a plan that is a table.
use Rattle.std.specs.Prelude.{◌≡◌, ℕ, ◌+◌, ◌*◌, ◌%◌, ◌<◌, ◌≤◌, true, List, [], length, nat_le, slice_index, slice_index_or, refl}
use Rattle.std.proofs.Common.{sym, ap₂, ◌∙◌, arith, lit≤}
use Rattle.std.proofs.Math.Nat.{mod-mod}
use Rattle.std.proofs.lemmas.Bool.{leb-true, le-leb}
use Rattle.std.proofs.lemmas.Nat.{mul-add-lt, mod_below, mul-le}
use Rattle.plan.specs.Ranks.{Lawful, Apart, Period}
use Rattle.plan.specs.Table.{tabled, table_plan, BlockApart, block_apart, Clash, Sized}
use Rattle.plan.specs.Knuth.{knuth_rows, knuth_rank, knuth_plan}
use Rattle.plan.specs.Blocks.{decides_block, blocks_everywhere, apart_from_blocks, apart_from_none, clash_breaks, every, from_every}

pub tabled_repeats : (p q : ℕ) (xs : List ℕ) (r c : ℕ) → tabled p q xs r c ≡ tabled p q xs (r % p) (c % q)
tabled_repeats p q xs r c = ap₂ (λ i j. slice_index xs (i * q + j)) (sym (mod-mod r p)) (sym (mod-mod c q))

-- what the test of one period tells of ranks that repeat
pub repeating_apart : (rank : ℕ → ℕ → ℕ) (p q : ℕ) → ((r c : ℕ) → rank r c ≡ rank (r % p) (c % q)) → 2 ≤ p → 2 ≤ q → every (λ r. every (block_apart rank r) q) p ≡ true → Apart rank
repeating_apart rank p q repeats tp tq passed =
    apart_from_blocks rank
    (blocks_everywhere rank p q repeats tp tq
    ((from_every (λ r. every (block_apart rank r) q) (λ r. (c : ℕ) → c < q → BlockApart rank r c)
    (λ r. from_every (block_apart rank r) (BlockApart rank r) (decides_block rank r) q) p).0 passed))

knuth_repeats : (r c : ℕ) → knuth_rank r c ≡ knuth_rank (r % 8) (c % 8)
knuth_repeats r c = ap₂ (λ i j. slice_index (slice_index_or knuth_rows i []) j) (sym (mod-mod r 8)) (sym (mod-mod c 8))

-- each rank of the one period is tested
pub knuth_lawful : Lawful knuth_plan
unfolding knuth_rows
knuth_lawful = record {
  row_period = record { least = lit≤ tt; most = lit≤ tt };
  column_period = record { least = lit≤ tt; most = lit≤ tt };
  byte = lit≤ tt;
  repeats = knuth_repeats;
  capped = λ r c. capped (r % 8) (omega arith) (c % 8) (omega arith);
  apart = repeating_apart knuth_rank 8 8 knuth_repeats (lit≤ tt) (lit≤ tt) refl;
}
  where
    capped : (i : ℕ) → i < 8 → (j : ℕ) → j < 8 → slice_index (slice_index_or knuth_rows i []) j ≤ 63
    capped =
        (from_every (λ i. every (λ j. nat_le (slice_index (slice_index_or knuth_rows i []) j) 63) 8) (λ i. (j : ℕ) → j < 8 → slice_index (slice_index_or knuth_rows i []) j ≤ 63)
        (λ i. from_every (λ j. nat_le (slice_index (slice_index_or knuth_rows i []) j) 63) (λ j. slice_index (slice_index_or knuth_rows i []) j ≤ 63) (λ j. (leb-true _ _, le-leb _ _)) 8) 8).0 refl

-- no clash on the plane, from the squares of one period
pub tabled-none : (p q : ℕ) (xs : List ℕ) → 2 ≤ p → 2 ≤ q → ((r : ℕ) → r < p → (c : ℕ) → c < q → BlockApart (tabled p q xs) r c) → Clash (tabled p q xs) → ⊥
tabled-none p q xs tp tq each =
    let rank = tabled p q xs in
    clash_breaks rank (apart_from_blocks rank (blocks_everywhere rank p q (tabled_repeats p q xs) tp tq each))

pub table_lawful : (p q : ℕ) (xs : List ℕ) → Period p → Period q → ((r c : ℕ) → tabled p q xs r c ≤ 255) → (Clash (tabled p q xs) → ⊥) → Lawful (table_plan p q xs)
table_lawful p q xs rows columns bytes none = record {
  row_period = rows;
  column_period = columns;
  byte = lit≤ tt;
  repeats = tabled_repeats p q xs;
  capped = bytes;
  apart = apart_from_none (tabled p q xs) none;
}

-- a table is read only at the squares of one period
pub tabled_alike : (p q : ℕ) (xs ys : List ℕ) → Sized p q (length xs) → ((k : ℕ) → k < length xs → slice_index ys k ≡ slice_index xs k) → (r c : ℕ) → tabled p q ys r c ≡ tabled p q xs r c
tabled_alike p q xs ys sized each r c =
    each ((r % p) * q + c % q)
    (omega (arith, sized, mul-add-lt (r % p) q (c % q) p (mod_below r p (omega arith)) (mod_below c q (omega arith))))

pub table_plan_alike : (p q : ℕ) (xs ys : List ℕ) → Sized p q (length xs) → ((k : ℕ) → k < length xs → slice_index ys k ≡ slice_index xs k) → table_plan p q ys ≡ table_plan p q xs
table_plan_alike p q xs ys sized each = λ i. record { row_period = p; column_period = q; top = 255; rank = λ r c. tabled_alike p q xs ys sized each r c i }

pub clash_alike : (f g : ℕ → ℕ → ℕ) → ((r c : ℕ) → f r c ≡ g r c) → Clash f → Clash g
clash_alike f g each k = record {
  row = k.row;
  column = k.column;
  other_row = k.other_row;
  other_column = k.other_column;
  touch = k.touch;
  equal = sym (each k.row k.column) ∙ k.equal ∙ each k.other_row k.other_column;
}

pub small_size : (p q n : ℕ) → Sized p q n → n ≤ 256
small_size p q n sized = omega (arith, mul-le p q 16 16 sized.row_period.most sized.column_period.most)
