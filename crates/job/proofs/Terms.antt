-- One square more of a total, and what its term is.
use Rattle.std.proofs.Common.{◌≡◌, ℕ, zero, suc, ◌+◌, ◌≤◌, List, length, take, sym, ap, ◌∙◌, add-one, arith}
use Rattle.std.proofs.lemmas.List.{take_all}
use Rattle.std.proofs.lemmas.List.Sums.{fold_more}
use Rattle.tone.specs.Algebra.{Algebra, Lawful}
use Rattle.tone.specs.Sums.{sum_of, total}
use Rattle.tone.proofs.Totals.{total-none, total_more}
use Rattle.model.specs.Calls.Answer.{Totals}
use Rattle.job.specs.Shown.{tone_at}

module _ {T : Type 0} (a : Algebra T) (f : ℕ → T) (n : ℕ) (sum : T) (so_far : sum ≡ total a f n) where
  pub term_added : (x more : T) → x ≡ f n → more ≡ a.sum sum x → more ≡ total a f (n + 1)
  term_added x more is added = added ∙ ap (λ s. a.sum s x) so_far ∙ ap (a.sum (total a f n)) is ∙ sym (total_more a f n)

  pub term_skipped : Lawful a → f n ≡ a.zero → sum ≡ total a f (n + 1)
  term_skipped l none = so_far ∙ sym (total_more a f n ∙ ap (a.sum (total a f n)) none ∙ l.neutral (total a f n))

-- a band's sum is the total of its tones
sum_of_front : {T : Type 0} (a : Algebra T) (xs : List T) (n : ℕ) → n ≤ length xs → sum_of a (take n xs) ≡ total a (tone_at a xs) n
sum_of_front a xs zero h = sym (total-none a (tone_at a xs))
sum_of_front a xs (suc n) h =
    ap (λ k. sum_of a (take k xs)) (sym (add-one n))
    ∙ fold_more a.sum a.zero xs n a.zero (omega arith)
    ∙ ap (λ s. a.sum s (tone_at a xs n)) (sum_of_front a xs n (omega arith))
    ∙ sym (total_more a (tone_at a xs) n)
    ∙ ap (total a (tone_at a xs)) (add-one n)

pub sum_of_all : {T : Type 0} (a : Algebra T) (xs : List T) (n : ℕ) → length xs ≡ n → sum_of a xs ≡ total a (tone_at a xs) n
sum_of_all a xs n e = ap (sum_of a) (sym (take_all n xs (omega arith))) ∙ sum_of_front a xs n (omega arith)

pub same_totals : {T : Type 0} {d o l m d' o' l' m' : T} → d ≡ d' → o ≡ o' → l ≡ l' → m ≡ m' → Totals d o l m ≡ Totals d' o' l' m'
same_totals p q r s = λ i. Totals (p i) (q i) (r i) (s i)
