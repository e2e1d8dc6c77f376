-- A drawing written as a plain PGM is read.
use Rattle.std.proofs.Common.{◌≡◌, ℕ, zero, suc, ◌+◌, ◌*◌, ◌<◌, ◌≤◌, Bool, true, cond, ◌&&◌, leb, List, ◌∷◌, ◌++◌, map, length, get_or, drop, is_some, Some, None, unwrap_or, sym, refl, ap, ◌∙◌, arith}
use Rattle.std.specs.List.{range_with_len}
use Rattle.std.proofs.lemmas.List.{length-map, get_or-map}
use Rattle.std.proofs.lemmas.List.FromFn.{fill_by_all}
use Rattle.std.proofs.lemmas.Bool.{le-leb}
use Rattle.std.proofs.lemmas.Bool.Decides.{nat_tests}
use Rattle.grid.specs.Limits.{within}
use Rattle.grid.proofs.Deciding.{within_true}
use Rattle.netpbm.specs.Words.{after, number_at}
use Rattle.netpbm.specs.Pgm.{Told, or_else, unless, begins, columns_in, greatest_in, squares_in, head_fault, first_fault, sound, tones_read, tone_of, tone_in, filled}
use Rattle.netpbm.specs.Files.{pgm, Drawing, GivenBack}
use Rattle.netpbm.proofs.Faults.{fault_of, sound_all}
use Rattle.netpbm.proofs.ReadBack.{Listed, first_apart, number_read, numbers_end, begins-numbered}

-- no fault where every test passes
head_passes : (b c r g s m w : Bool) (f₁ f₂ f₃ f₄ f₅ f₆ f₇ : Told) → b ≡ true → c ≡ true → r ≡ true → g ≡ true → s ≡ true → m ≡ true → w ≡ true
    → or_else (unless b f₁) (or_else (unless c f₂) (or_else (unless r f₃) (or_else (unless g f₄) (or_else (unless s f₅) (or_else (unless m f₆) (unless w f₇)))))) ≡ None
head_passes b c r g s m w f₁ f₂ f₃ f₄ f₅ f₆ f₇ e₁ e₂ e₃ e₄ e₅ e₆ e₇ = rw (e₁, e₂, e₃, e₄, e₅, e₆, e₇) refl

sample_passes : (n v : Bool) (f g : Told) → n ≡ true → v ≡ true → or_else (unless n f) (unless v g) ≡ None
sample_passes n v f g e₁ e₂ = rw (e₁, e₂) refl

abbrev numbers : ℕ → ℕ → ℕ → List ℕ → List ℕ
numbers rows columns greatest samples = columns ∷ rows ∷ greatest ∷ samples

-- no number of a drawing is too great
numbers_low : (gap samples rest : List ℕ) (rows columns greatest : ℕ) → Drawing gap rows columns greatest samples rest
    → (k : ℕ) → k < length (numbers rows columns greatest samples) → get_or (numbers rows columns greatest samples) k 0 ≤ 65535
numbers_low gap samples rest rows columns greatest d zero h = omega (arith, d.size.narrow)
numbers_low gap samples rest rows columns greatest d (suc zero) h = omega (arith, d.size.low)
numbers_low gap samples rest rows columns greatest d (suc (suc zero)) h = omega (arith, d.most)
numbers_low gap samples rest rows columns greatest d (suc (suc (suc k))) h = omega (arith, d.samples_fit k (omega arith), d.most)

listed : (gap samples rest : List ℕ) (rows columns greatest : ℕ) → Drawing gap rows columns greatest samples rest
    → Listed (pgm gap rows columns greatest samples ++ rest) gap rest (numbers rows columns greatest samples)
listed gap samples rest rows columns greatest d =
    record { parted = d.parted; separators = d.separators; low = numbers_low gap samples rest rows columns greatest d; ended = d.ended; behind = refl }

-- the numbers of an input that begins as it should
record ToldSo (input : List ℕ) (rows columns greatest : ℕ) (samples : List ℕ) : Type 0 where
  pub begun : begins input ≡ true
  pub columns_are : number_at input (after input 0) ≡ Some columns
  pub rows_are : number_at input (after input 1) ≡ Some rows
  pub greatest_is : number_at input (after input 2) ≡ Some greatest
  pub sample_is : (k : ℕ) → k < length samples → number_at input (after input (3 + k)) ≡ Some (get_or samples k 0)

told_so : (gap samples rest : List ℕ) (rows columns greatest : ℕ) → Drawing gap rows columns greatest samples rest
    → ToldSo (pgm gap rows columns greatest samples ++ rest) rows columns greatest samples
told_so gap samples rest rows columns greatest d =
    let input = pgm gap rows columns greatest samples ++ rest in
    let ns = numbers rows columns greatest samples in
    let file = listed gap samples rest rows columns greatest d in
    record {
      begun = ap (λ l. begins (80 ∷ 50 ∷ l)) (first_apart gap rest (rows ∷ greatest ∷ samples) columns) ∙ begins-numbered gap _ d.parted d.separators;
      columns_are = number_read input gap rest ns file 0 (omega arith);
      rows_are = number_read input gap rest ns file 1 (omega arith);
      greatest_is = number_read input gap rest ns file 2 (omega arith);
      sample_is = λ k h.
          let e : 3 + k ≡ suc (suc (suc k)) = omega arith in
          number_read input gap rest ns file (3 + k) (omega arith) ∙ ap (λ j. Some (get_or ns j 0)) e;
    }

squares_are : (input samples : List ℕ) (rows columns greatest : ℕ) → ToldSo input rows columns greatest samples → squares_in input ≡ rows * columns
squares_are input samples rows columns greatest t =
    ap (λ o. unwrap_or o 0 * columns_in input) t.rows_are ∙ ap (λ o. rows * unwrap_or o 0) t.columns_are

head_accepted : (input gap samples rest : List ℕ) (rows columns greatest room : ℕ) → Drawing gap rows columns greatest samples rest → ToldSo input rows columns greatest samples
    → rows * columns ≤ room → head_fault input room ≡ None
head_accepted input gap samples rest rows columns greatest room d t fits =
    let most : (leb 1 greatest && leb greatest 255) ≡ true = let least = d.least in let most = d.most in grind (arith, nat_tests) in
    head_passes _ _ _ _ _ _ _ _ _ _ _ _ _ _ t.begun (ap is_some t.columns_are) (ap is_some t.rows_are) (ap is_some t.greatest_is)
    (ap (λ o. within (unwrap_or o 0) (columns_in input)) t.rows_are ∙ ap (λ o. within rows (unwrap_or o 0)) t.columns_are ∙ within_true rows columns d.size)
    (ap (λ o. leb 1 (unwrap_or o 0) && leb (unwrap_or o 0) 255) t.greatest_is ∙ most)
    (ap (λ n. leb n room) (squares_are input samples rows columns greatest t) ∙ le-leb (rows * columns) room fits)

sample_accepted : (input gap samples rest : List ℕ) (rows columns greatest : ℕ) → Drawing gap rows columns greatest samples rest → ToldSo input rows columns greatest samples
    → (k : ℕ) → k < length samples → fault_of input k ≡ None
sample_accepted input gap samples rest rows columns greatest d t k h =
    sample_passes _ _ _ _ (ap is_some (t.sample_is k h))
    (ap (λ o. leb (unwrap_or o 0) (greatest_in input)) (t.sample_is k h) ∙ ap (λ o. leb (get_or samples k 0) (unwrap_or o 0)) t.greatest_is
    ∙ le-leb (get_or samples k 0) greatest (d.samples_fit k h))

samples_accepted : (input gap samples rest : List ℕ) (rows columns greatest : ℕ) → Drawing gap rows columns greatest samples rest → ToldSo input rows columns greatest samples
    → (n : ℕ) → n ≤ length samples → first_fault input n ≡ None
unfolding first_fault
samples_accepted input gap samples rest rows columns greatest d t zero h = refl
samples_accepted input gap samples rest rows columns greatest d t (suc n) h =
    let before = samples_accepted input gap samples rest rows columns greatest d t n (omega arith) in
    let here = sample_accepted input gap samples rest rows columns greatest d t n (omega arith) in
    ap (λ o. or_else o (fault_of input n)) before ∙ here

-- the tones are those of the samples
tones_are : (input samples : List ℕ) (rows columns greatest : ℕ) → ToldSo input rows columns greatest samples → map (tone_in input) (range_with_len 0 (length samples)) ≡ map tone_of samples
tones_are input samples rows columns greatest t =
    sym (fill_by_all (tone_in input) (map tone_of samples) (length samples) 0 (length-map samples tone_of)
    (λ k h. get_or-map tone_of samples k 0 0 h ∙ sym (ap (λ o. tone_of (unwrap_or o 0)) (t.sample_is k h))))

pub drawing_read : (gap : List ℕ) (rows columns greatest room : ℕ) (samples rest : List ℕ) → Drawing gap rows columns greatest samples rest → rows * columns ≤ room
    → GivenBack (pgm gap rows columns greatest samples ++ rest) room rows columns samples (length (pgm gap rows columns greatest samples))
drawing_read gap rows columns greatest room samples rest d fits =
    let input = pgm gap rows columns greatest samples ++ rest in
    let t = told_so gap samples rest rows columns greatest d in
    let many : squares_in input ≡ length samples = squares_are input samples rows columns greatest t ∙ sym d.count in
    let head = head_accepted input gap samples rest rows columns greatest room d t fits in
    let clean : first_fault input (squares_in input) ≡ None =
    ap (first_fault input) many ∙ samples_accepted input gap samples rest rows columns greatest d t (length samples) (omega arith) in
    let count : tones_read input room ≡ length samples =
    ap (λ o. cond (is_some o) 0 (sound input (squares_in input))) head ∙ sound_all input (squares_in input) clean ∙ many in
    let last : length (numbers rows columns greatest samples) ≡ 3 + length samples = omega arith in
    let ended = numbers_end input gap rest (numbers rows columns greatest samples) (listed gap samples rest rows columns greatest d) in
    record {
      accepted = ap (λ o. or_else o (first_fault input (squares_in input))) head ∙ clean;
      its_rows = ap (λ o. unwrap_or o 0) t.rows_are;
      its_columns = ap (λ o. unwrap_or o 0) t.columns_are;
      its_end = ap (λ n. after input (3 + n)) many ∙ ap (after input) (sym last) ∙ ended ∙ omega arith;
      its_band = λ old.
          ap (λ n. filled input n old) count ∙ ap (λ l. l ++ drop (length samples) old) (tones_are input samples rows columns greatest t);
    }
