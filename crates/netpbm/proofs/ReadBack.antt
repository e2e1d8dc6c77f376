-- A file of numbers in decimal, number by number.
use Rattle.std.proofs.Common.{◌≡◌, ℕ, zero, suc, ◌+◌, ◌<◌, ◌≤◌, true, List, [], ◌∷◌, ◌++◌, length, get_or, drop, Some, decimal, refl, ap, ◌∙◌, append_assoc, arith, length-append}
use Rattle.std.proofs.lemmas.List.{drop_more, drop_all}
use Rattle.std.proofs.lemmas.Bool.{cond-true}
use Rattle.netpbm.specs.Words.{separator, word_from, number_at, after}
use Rattle.netpbm.specs.Pgm.{begins}
use Rattle.netpbm.specs.Files.{numbered}
use Rattle.netpbm.proofs.Numbers.{NumberFound, number_found}

-- an input with numbers behind its first two bytes, each behind a gap
pub record Listed (input gap rest ns : List ℕ) : Type 0 where
  pub parted : 1 ≤ length gap
  pub separators : (k : ℕ) → k < length gap → separator (get_or gap k 0) ≡ true
  pub low : (k : ℕ) → k < length ns → get_or ns k 0 ≤ 65535
  pub ended : word_from rest ≡ []
  pub behind : drop 2 input ≡ numbered gap ns ++ rest

-- no number goes on behind its last digit
tail_ended : (gap rest ns : List ℕ) → 1 ≤ length gap → ((k : ℕ) → k < length gap → separator (get_or gap k 0) ≡ true) → word_from rest ≡ [] → word_from (numbered gap ns ++ rest) ≡ []
tail_ended [] rest ns some all e = absurd (omega (arith, some))
tail_ended (b ∷ gs) rest [] some all e = e
tail_ended (b ∷ gs) rest (n ∷ ns) some all e = cond-true (separator b) [] _ (all 0 (omega arith))

-- the first number apart from those that follow
pub first_apart : (gap rest ns : List ℕ) (n : ℕ) → numbered gap (n ∷ ns) ++ rest ≡ gap ++ (decimal n ++ (numbered gap ns ++ rest))
first_apart gap rest ns n = append_assoc (gap ++ decimal n) (numbered gap ns) rest ∙ append_assoc gap (decimal n) (numbered gap ns ++ rest)

-- the position behind the first k numbers
pub record Reached (input gap rest ns : List ℕ) (k : ℕ) : Type 0 where
  pub left : drop (after input k) input ≡ numbered gap (drop k ns) ++ rest
  pub so_far : after input k + length (numbered gap (drop k ns)) ≡ 2 + length (numbered gap ns)

found_next : (input gap rest ns : List ℕ) → Listed input gap rest ns → (k : ℕ) → k < length ns → Reached input gap rest ns k
    → NumberFound input (numbered gap (drop (k + 1) ns) ++ rest) (after input k) (get_or ns k 0) (length gap + length (decimal (get_or ns k 0)))
found_next input gap rest ns file k h before =
    number_found input gap (numbered gap (drop (k + 1) ns) ++ rest) (after input k) (get_or ns k 0) file.separators (file.low k h)
    (tail_ended gap rest (drop (k + 1) ns) file.parted file.separators file.ended)
    (before.left ∙ ap (λ l. numbered gap l ++ rest) (drop_more ns k 0 h) ∙ first_apart gap rest (drop (k + 1) ns) (get_or ns k 0))

pub reached : (input gap rest ns : List ℕ) → Listed input gap rest ns → (k : ℕ) → k ≤ length ns → Reached input gap rest ns k
reached input gap rest ns file zero h = record { left = file.behind; so_far = refl }
reached input gap rest ns file (suc k) h =
    let before = reached input gap rest ns file k (omega arith) in
    let n = get_or ns k 0 in
    let found = found_next input gap rest ns file k (omega arith) before in
    let e : k + 1 ≡ suc k = omega arith in
    let step : length (numbered gap (drop k ns)) ≡ length gap + length (decimal n) + length (numbered gap (drop (suc k) ns)) =
    ap (λ l. length (numbered gap l)) (drop_more ns k 0 (omega arith)) ∙ length-append (gap ++ decimal n) (numbered gap (drop (k + 1) ns))
    ∙ ap (λ m. m + length (numbered gap (drop (k + 1) ns))) (length-append gap (decimal n)) ∙ ap (λ m. length gap + length (decimal n) + length (numbered gap (drop m ns))) e in
    record {
      left = found.next ∙ ap (λ m. numbered gap (drop m ns) ++ rest) e;
      so_far = omega (arith, found.end, before.so_far, step);
    }

-- number k is the one written
pub number_read : (input gap rest ns : List ℕ) → Listed input gap rest ns → (k : ℕ) → k < length ns → number_at input (after input k) ≡ Some (get_or ns k 0)
number_read input gap rest ns file k h = (found_next input gap rest ns file k h (reached input gap rest ns file k (omega arith))).value

-- behind all numbers the file ends
pub numbers_end : (input gap rest ns : List ℕ) → Listed input gap rest ns → after input (length ns) ≡ 2 + length (numbered gap ns)
numbers_end input gap rest ns file =
    let last = reached input gap rest ns file (length ns) (omega arith) in
    omega (arith, last.so_far, ap (λ l. length (numbered gap l)) (drop_all (length ns) ns (omega arith)))

pub begins-numbered : (gap ys : List ℕ) → 1 ≤ length gap → ((k : ℕ) → k < length gap → separator (get_or gap k 0) ≡ true) → begins (80 ∷ 50 ∷ (gap ++ ys)) ≡ true
begins-numbered [] ys some all = absurd (omega (arith, some))
begins-numbered (b ∷ gs) ys some all = all 0 (omega arith)
